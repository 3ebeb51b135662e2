use mathlib.Core.Path.{sym, ◌∙◌}
use Rattle.scan_pieces.proofs.AtPlace.{byte_none, literal_begun}
use Rattle.scan_pieces.proofs.literals.literal_at.Goals as goal

pub returns-then-stands : goal.returns-then-stands
returns-then-stands c = literal_begun _ _ _ (sym c.stands.ensures ∙ c.if-stands.true)

pub returns-else-stands : goal.returns-else-stands
returns-else-stands c = byte_none _ _ _ c.requires (sym c.stands.ensures ∙ c.if-stands.false) _
