use Rattle.read_value.specs.Values.{option_value_of}
use Rattle.scan_cursors.proofs.Readings.{fmap_reads, pair_reads, terminated_reads}
use Rattle.scan_steps.proofs.Closing.{valued_reads}
use Rattle.read_tests.proofs.tests.field_option.Goals as goal

pub returns : goal.returns
unfolding option_value_of
returns c =
    let mask = c.then_mask-m.ensures.0 in
    let operator = terminated_reads mask.inside c.then_comparison-o.ensures c.then_spaces-c.ensures.1 in
    let value = fmap_reads _ (pair_reads c.gap_at-c.ensures.1.inside mask (pair_reads mask.inside operator c.then_numeral-n.ensures.0)) in
    (valued_reads c.requires.0 c.gap_at-c.ensures value c.then_closing.ensures, tt)
