-- A first byte 0 is no number of a rule; every other number is one.
use mathlib.Core.Path.{sym, ◌∙◌}
use borrow.Author.Tests.{eqb-true, eqb-false}
use Rattle.book_rules.proofs.RuleNumbers.{begins_zero, zero_number, other_number}
use Rattle.book_rules.proofs.parse_number.Goals as goal

pub returns-then-starts_with : goal.returns-then-starts_with
returns-then-starts_with c =
    let s = c.args.s.now in
    zero_number s (eqb-true _ 48 (sym (begins_zero s) ∙ sym c.starts_with.ensures.value ∙ c.if-starts_with.true))

pub returns : goal.returns
returns c =
    let s = c.args.s.now in
    c.parse_decimal.ensures ∙ other_number s (eqb-false _ 48 (sym (begins_zero s) ∙ sym c.starts_with.ensures.value ∙ c.if-starts_with.false))
