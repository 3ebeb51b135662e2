use Rattle.scan_cursors.proofs.Readings.{terminated_reads}
use Rattle.read_addresses.proofs.dotted.then_dotted.Goals as goal

pub returns : goal.returns
returns c = terminated_reads c.requires c.then_byte-n.ensures c.then_literal.ensures
