-- Column by column: those before were of their form.
use mathlib.Core.Path.{sym, ◌∙◌}
use native.Mathlib.Omega.{arith}
use Rattle.book_rules.proofs.RuleNumbers.{number_fits_lem}
use Rattle.book_rules.proofs.RuleColumns.{text_le, no_end, few_tabs, no_number, no-state, no-action, one-rule}
use Rattle.book_rules.proofs.parse_rule.Goals as goal

pub returns-then-not-contains : goal.returns-then-not-contains
returns-then-not-contains c = no_end _ (sym c.contains.ensures ∙ c.if-not-contains.true)

pub returns-then-not-contains-2 : goal.returns-then-not-contains-2
returns-then-not-contains-2 c = few_tabs _ (sym c.contains.ensures ∙ c.if-not-contains.false)
    _ _ c.part_after-r1.ensures c.part_after-r2.ensures
    (sym c.contains-2.ensures ∙ c.if-not-contains-2.true)

pub returns-in_err-number : goal.returns-in_err-number
returns-in_err-number c = c.from_residual.ensures ∙ no_number _ (sym c.contains.ensures ∙ c.if-not-contains.false)
    _ _ c.part_after-r1.ensures c.part_after-r2.ensures
    (sym c.contains-2.ensures ∙ c.if-not-contains-2.false) _ c.part_before.ensures
    (sym c.parse_number.ensures ∙ c.in_err-number.was)

pub returns-in_err-state : goal.returns-in_err-state
returns-in_err-state c = c.from_residual-in_err-state.ensures ∙ no-state _ (sym c.contains.ensures ∙ c.if-not-contains.false)
    _ _ c.part_after-r1.ensures c.part_after-r2.ensures
    (sym c.contains-2.ensures ∙ c.if-not-contains-2.false) _ c.part_before.ensures
    _ (sym c.parse_number.ensures ∙ c.in_ok-number.was) _ c.part_before-2.ensures
    (sym c.parse_state.ensures ∙ c.in_err-state.was)

pub returns-in_err-action : goal.returns-in_err-action
returns-in_err-action c = c.from_residual-in_err-action.ensures ∙ no-action _ (sym c.contains.ensures ∙ c.if-not-contains.false)
    _ _ c.part_after-r1.ensures c.part_after-r2.ensures
    (sym c.contains-2.ensures ∙ c.if-not-contains-2.false) _ c.part_before.ensures
    _ (sym c.parse_number.ensures ∙ c.in_ok-number.was) _ c.part_before-2.ensures
    _ (sym c.parse_state.ensures ∙ c.in_ok-state.was) _ c.part_before-3.ensures
    (sym c.parse_action.ensures ∙ c.in_err-action.was)

pub overflow_cast-result : goal.overflow_cast-result
overflow_cast-result c = omega (arith, number_fits_lem _ _ (sym c.parse_number.ensures ∙ c.in_ok-number.was))

pub overflow_sub-result : goal.overflow_sub-result
overflow_sub-result c = text_le _ _ _ _ c.part_after-r1.ensures c.part_after-r2.ensures c.part_after-r3.ensures

pub returns : goal.returns
returns c = one-rule _ (sym c.contains.ensures ∙ c.if-not-contains.false)
    _ _ c.part_after-r1.ensures c.part_after-r2.ensures
    (sym c.contains-2.ensures ∙ c.if-not-contains-2.false) _ c.part_before.ensures
    _ (sym c.parse_number.ensures ∙ c.in_ok-number.was) _ c.part_before-2.ensures
    _ (sym c.parse_state.ensures ∙ c.in_ok-state.was) _ c.part_before-3.ensures
    _ (sym c.parse_action.ensures ∙ c.in_ok-action.was) _ _ c.part_after-r3.ensures c.part_before-4.ensures
