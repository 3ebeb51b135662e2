use Rattle.scan_pieces.proofs.Gaps.{run_any}
use Rattle.scan_pieces.proofs.literals.spaces_at.Goals as goal

pub returns : goal.returns
returns c = (_, run_any _ _ _ _ c.requires c.run_of.ensures)
