use mathlib.Core.Path.{sym, ◌∙◌}
use Rattle.scan_pieces.proofs.AtPlace.{mark_yes, mark_no}
use Rattle.scan_pieces.proofs.literals.optional_literal_at.Goals as goal

pub returns-then-stands : goal.returns-then-stands
returns-then-stands c = mark_yes _ _ _ (sym c.stands.ensures ∙ c.if-stands.true)

pub returns-else-stands : goal.returns-else-stands
returns-else-stands c = mark_no _ _ _ c.requires (sym c.stands.ensures ∙ c.if-stands.false)
