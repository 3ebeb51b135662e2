use Rattle.read_value.specs.Values.{option_value_of}
use Rattle.scan_cursors.proofs.Readings.{fmap_reads}
use Rattle.scan_steps.proofs.Closing.{valued_reads}
use Rattle.read_options.proofs.heads.flow_option.Goals as goal

pub returns : goal.returns
unfolding option_value_of
returns c = (valued_reads c.requires c.gap_at-c.ensures (fmap_reads _ c.then_flow-f.ensures) c.then_closing.ensures, tt)
