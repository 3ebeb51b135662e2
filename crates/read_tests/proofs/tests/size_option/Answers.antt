use Rattle.read_value.specs.Values.{option_value_of}
use Rattle.scan_cursors.proofs.Readings.{fmap_reads, pair_reads}
use Rattle.scan_steps.proofs.Closing.{valued_reads}
use Rattle.read_tests.proofs.tests.size_option.Goals as goal

pub returns : goal.returns
unfolding option_value_of
returns c =
    let order = c.then_size_order-o.ensures in
    let number = c.then_number-n.ensures.0 in
    let value = fmap_reads _ (pair_reads c.gap_at-c.ensures.1.inside order (pair_reads order.inside number c.then_size_field-f.ensures)) in
    (valued_reads c.requires c.gap_at-c.ensures value c.then_closing.ensures, tt)
