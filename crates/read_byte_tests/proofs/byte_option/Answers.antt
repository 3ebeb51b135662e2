use Rattle.read_value.specs.Values.{option_value_of}
use Rattle.scan_cursors.proofs.Readings.{fmap_reads, pair_reads, terminated_reads}
use Rattle.scan_steps.proofs.Closing.{valued_reads}
use Rattle.read_byte_tests.proofs.byte_option.Goals as goal

pub returns : goal.returns
unfolding option_value_of
returns c =
    let i = c.gap_at-c.ensures.1.inside in
    let width = terminated_reads i c.then_width-w.ensures c.then_literal-c.ensures in
    let operator = terminated_reads width.inside c.then_byte_operator-o.ensures c.then_literal-c-2.ensures in
    let value = terminated_reads operator.inside c.then_part-v.ensures.0 c.then_literal-c-3.ensures in
    let offset = c.then_part-n.ensures.0 in
    let parts = pair_reads i width (pair_reads width.inside operator (pair_reads operator.inside value (pair_reads value.inside offset
    c.then_flags-f.ensures))) in
    (valued_reads c.requires c.gap_at-c.ensures (fmap_reads _ parts) c.then_closing.ensures, tt)
