-- After the first byte the invariant says what is still to compare: the bytes from `i` on. Each turn goes one byte on in both lists.
use mathlib.Core.Path.{sym, ◌∙◌}
use mathlib.Core.Bool.{true}
use native.Mathlib.Omega.{arith}
use borrow.Author.Tests.{eqb-true, eqb-false}
use Rattle.match_patterns.proofs.BytesAtPlace.{none_stand, first_alike, first_not, stands_done, stands_more, stands_not}
use Rattle.match_patterns.proofs.bytes.alike_at.Goals as goal

pub returns-then-is_empty : goal.returns-then-is_empty
returns-then-is_empty c = sym (none_stand true c.args.b.now c.args.f.now c.args.at (eqb-true _ _ (sym c.is_empty.ensures ∙ c.if-is_empty.true)))

pub returns-then-not-alike : goal.returns-then-not-alike
returns-then-not-alike c =
    let a = c.args in
    let some = eqb-false _ _ (sym c.is_empty.ensures ∙ c.if-is_empty.false) in
    sym (first_not true a.b.now a.f.now a.at c.requires.1 some (sym c.alike.ensures ∙ c.if-not-alike.true))

pub loop-i-init : goal.loop-i-init
loop-i-init c =
    let a = c.args in
    let some = eqb-false _ _ (sym c.is_empty.ensures ∙ c.if-is_empty.false) in
    first_alike true a.b.now a.f.now a.at c.requires.1 some (sym c.alike.ensures ∙ c.if-not-alike.false)

pub returns-then-not-alike-2 : goal.returns-then-not-alike-2
returns-then-not-alike-2 c =
    let l = c.loop-i in
    let a = c.args in
    sym (l.invariant ∙ stands_not true a.b.now a.f.now a.at c.requires.1 l.i c.loop-i-test.true (sym c.alike-in-loop-i.ensures ∙ c.if-not-alike-2.true))

pub loop-i-preserved : goal.loop-i-preserved
loop-i-preserved c =
    let l = c.loop-i in
    let a = c.args in
    l.invariant ∙ stands_more true a.b.now a.f.now a.at c.requires.1 l.i c.loop-i-test.true (sym c.alike-in-loop-i.ensures ∙ c.if-not-alike-2.false)

pub returns : goal.returns
returns c =
    let l = c.loop-i in
    let a = c.args in
    sym (l.invariant ∙ stands_done true a.b.now a.f.now a.at l.i (omega arith))
