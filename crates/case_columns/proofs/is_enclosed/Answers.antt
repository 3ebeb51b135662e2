-- The opening bracket, then the closing one.
use mathlib.Core.Path.{sym, ◌∙◌}
use Rattle.case_columns.proofs.Enclosed.{no_opening, late_opening, no-closing, last-closing}
use Rattle.case_columns.proofs.is_enclosed.Goals as goal

pub returns-then-not-contains : goal.returns-then-not-contains
returns-then-not-contains c = no_opening _ (sym c.contains.ensures ∙ c.if-not-contains.true)

pub returns-then-not-is_empty : goal.returns-then-not-is_empty
returns-then-not-is_empty c = late_opening _ (sym c.contains.ensures ∙ c.if-not-contains.false) _ c.part_before.ensures
    (sym c.is_empty.ensures ∙ c.if-not-is_empty.true)

pub returns-then-not-contains-2 : goal.returns-then-not-contains-2
returns-then-not-contains-2 c = no-closing _ (sym c.contains.ensures ∙ c.if-not-contains.false) _ c.part_before.ensures
    (sym c.is_empty.ensures ∙ c.if-not-is_empty.false) _ c.part_after-rest.ensures (sym c.contains-2.ensures ∙ c.if-not-contains-2.true)

pub returns : goal.returns
returns c = c.is_empty-2.ensures
    ∙ last-closing _ (sym c.contains.ensures ∙ c.if-not-contains.false) _ c.part_before.ensures
    (sym c.is_empty.ensures ∙ c.if-not-is_empty.false) _ c.part_after-rest.ensures (sym c.contains-2.ensures ∙ c.if-not-contains-2.false)
    _ c.part_after.ensures
