-- One number is read, and the value is what the field's option is read as.
use Rattle.read_value.specs.Values.{option_value_of}
use Rattle.scan_cursors.proofs.Readings.{fmap_reads}
use Rattle.scan_steps.proofs.Closing.{valued_reads}
use Rattle.read_tests.proofs.tests.number_option.Goals as goal

pub returns : goal.returns
unfolding option_value_of
returns c =
    let value = fmap_reads _ c.then_number-n.ensures.0 in
    (rw c.number_item.ensures (valued_reads c.requires.0 c.gap_at-c.ensures value c.then_closing.ensures), tt)
