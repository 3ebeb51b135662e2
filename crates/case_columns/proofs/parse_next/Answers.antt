-- The brackets, then the starts between them.
use mathlib.Core.Path.{sym, ◌∙◌}
use Rattle.case_columns.proofs.Queries.{not_enclosed, enclosed}
use Rattle.case_columns.proofs.parse_next.Goals as goal

pub returns-then-not-is_enclosed : goal.returns-then-not-is_enclosed
returns-then-not-is_enclosed c = not_enclosed _ (sym c.is_enclosed.ensures ∙ c.if-not-is_enclosed.true)

pub returns : goal.returns
returns c = enclosed _ (sym c.is_enclosed.ensures ∙ c.if-not-is_enclosed.false) _ _ c.part_after.ensures c.part_before.ensures _ c.parse_starts.ensures
