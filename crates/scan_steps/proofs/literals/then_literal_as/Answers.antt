use Rattle.scan_cursors.proofs.Readings.{fmap_reads}
use Rattle.scan_steps.proofs.literals.then_literal_as.Goals as goal

pub returns : goal.returns
returns g c = fmap_reads _ c.then_literal.ensures
