use Rattle.read_value.specs.Values.{option_value_of}
use Rattle.scan_steps.proofs.Closing.{bare_reads}
use Rattle.read_tests.proofs.tests.same_ip_option.Goals as goal

pub returns : goal.returns
unfolding option_value_of
returns c = (bare_reads _ c.requires c.closing_at.ensures, tt)
