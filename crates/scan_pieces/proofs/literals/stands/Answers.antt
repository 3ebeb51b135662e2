use mathlib.Core.Path.{sym, ◌∙◌}
use Rattle.scan_pieces.proofs.AtPlace.{begins_at, has_one}
use Rattle.scan_pieces.proofs.literals.stands.Goals as goal

pub returns-then-at-s : goal.returns-then-at-s
returns-then-at-s c = sym (begins_at _ _ _ c.if-at-s.true ∙ has_one _ _)
