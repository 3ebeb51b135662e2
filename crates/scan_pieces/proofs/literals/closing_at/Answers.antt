use Rattle.scan_cursors.proofs.Readings.{preceded_reads}
use Rattle.scan_pieces.proofs.literals.closing_at.Goals as goal

pub returns : goal.returns
returns c = (59, preceded_reads c.requires c.spaces_at-from.ensures.1 c.literal_at.ensures)
