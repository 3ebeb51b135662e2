-- After the groups byte by byte: the run of other bytes, which a group passed over does not end.
use mathlib.Core.Path.{◌≡◌, ap, ◌∙◌}
use mathlib.Core.Bool.{not}
use native.Mathlib.Omega.{arith}
use Prim.Native.Nat.{◌+◌}
use lib.Dec.{eqb, leb}
use lib.ListN.{length, drop}
use borrow.Author.Tests.{eq-eqb, ne_eqb, leb-true, leb-false}
use Rattle.forms.proofs.Bools.{by_cases}
use Rattle.definitions.specs.Parts.{find}
use Rattle.list_laws.proofs.Runs.{run_on, run_halt, run_out}
use Rattle.scan_find.proofs.find_from.Goals as goal

pub loop-i-init : goal.loop-i-init
unfolding find
loop-i-init c = c.past_groups-near.ensures

pub returns-then-s-i : goal.returns-then-s-i
unfolding find
returns-then-s-i c = run_halt (λ x. not (eqb x _)) _ _ _ c.loop-i.invariant (omega arith) (ap not (eq-eqb _ _ c.if-s-i.true))

pub loop-i-preserved : goal.loop-i-preserved
loop-i-preserved c = run_on (λ x. not (eqb x _)) _ _ _ c.loop-i.invariant (omega arith) (ap not (ne_eqb _ _ c.if-s-i.false))

pub returns : goal.returns
unfolding find
returns c =
    let x = c.args in
    let near = c.past_groups-near.result in
    let end = length x.s.now in
    let due = x.from + find x.b (drop x.from x.s.now) in
    c.max.ensures
    ∙ by_cases (leb end near)
    (λ t.
    let none : near ≡ due = run_out (λ y. not (eqb y x.b)) x.s.now x.from near c.past_groups-near.ensures (leb-true end near t) in
    omega (arith, none, leb-true end near t))
    (λ f.
    let none : c.loop-i.i ≡ due = run_out (λ y. not (eqb y x.b)) x.s.now x.from c.loop-i.i c.loop-i.invariant c.loop-i-test.false in
    omega (arith, none, leb-false end near f))
