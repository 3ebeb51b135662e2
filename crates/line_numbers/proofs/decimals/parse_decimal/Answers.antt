-- The digits passed are kept as the number that they write; each way out is a law of the number so far.
use mathlib.Core.Path.{sym, ◌∙◌}
use native.Mathlib.Omega.{arith}
use lib.ListN.{get_or}
use borrow.Author.Tests.{eqb-true}
use Rattle.line_numbers.proofs.Digits.{no_digits, kept_byte, kept_large, kept_on, kept_out, digit_high}
use Rattle.line_numbers.proofs.decimals.parse_decimal.Goals as goal

pub returns-then-is_empty : goal.returns-then-is_empty
returns-then-is_empty c = no_digits _ _ (eqb-true _ _ (sym c.is_empty.ensures ∙ c.if-is_empty.true))

pub returns-then-not-is_between : goal.returns-then-not-is_between
returns-then-not-is_between c = kept_byte _ _ _ _ c.loop-b.invariant (omega arith) (sym c.is_between.ensures ∙ c.if-not-is_between.true)

pub returns-then-limit-d : goal.returns-then-limit-d
returns-then-limit-d c =
    let b = get_or c.args.s.now c.loop-b.b-index 0 in
    let digit = sym c.is_between.ensures ∙ c.if-not-is_between.false in
    kept_large _ _ _ _ c.loop-b.invariant (omega arith) digit (omega (arith, c.if-limit-d.true, digit_high b digit, c.requires))

pub loop-b-preserved : goal.loop-b-preserved
loop-b-preserved c =
    let b = get_or c.args.s.now c.loop-b.b-index 0 in
    let digit = sym c.is_between.ensures ∙ c.if-not-is_between.false in
    kept_on _ _ _ _ c.loop-b.invariant (omega arith) digit (omega (arith, c.if-limit-d.false, digit_high b digit, c.requires))

pub returns : goal.returns
returns c = kept_out _ _ _ _ c.loop-b.invariant (omega arith)
