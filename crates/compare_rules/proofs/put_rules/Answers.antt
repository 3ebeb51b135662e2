-- The lower number first: what is left to be put is what is to be put from the loop's two places on.
use native.Mathlib.Omega.{arith}
use Rattle.compare_rules.proofs.LoadedRules.{in_room}
use Rattle.compare_rules.proofs.Merging.{merged, old-alone, old-on, new-on, both-on}
use Rattle.compare_rules.proofs.put_rules.Goals as goal

pub bounds-a-i : goal.bounds-a-i
bounds-a-i c = in_room c.loop-i.invariant.of_first _ c.loop-i-test.true

pub offset_bounds-a-i : goal.offset_bounds-a-i
offset_bounds-a-i c = omega (arith, in_room c.loop-i.invariant.of_first _ c.loop-i-test.true)

pub loop-i-preserved-then-m-j : goal.loop-i-preserved-then-m-j
loop-i-preserved-then-m-j c = old-alone _ _ _ _ _ _ _ _ c.loop-i.invariant _ c.loop-i-test.true c.if-m-j.true c.put_old-next.ensures

pub bounds-b-j : goal.bounds-b-j
bounds-b-j c = in_room c.loop-i.invariant.of_second _ c.if-m-j.false

pub offset_bounds-b-j : goal.offset_bounds-b-j
offset_bounds-b-j c = omega (arith, in_room c.loop-i.invariant.of_second _ c.if-m-j.false)

pub loop-i-preserved-then-x-y : goal.loop-i-preserved-then-x-y
loop-i-preserved-then-x-y c = old-on _ _ _ _ _ _ _ _ c.loop-i.invariant _ c.loop-i-test.true _ c.if-m-j.false c.if-x-y.true c.put_old-next-then-x-y.ensures

pub loop-i-preserved-then-y-x : goal.loop-i-preserved-then-y-x
loop-i-preserved-then-y-x c = new-on _ _ _ _ _ _ _ _ c.loop-i.invariant _ c.loop-i-test.true _ c.if-m-j.false c.if-y-x.true c.put_new-next.ensures

pub loop-i-preserved : goal.loop-i-preserved
loop-i-preserved c = both-on _ _ _ _ _ _ _ _ c.loop-i.invariant _ c.loop-i-test.true _ c.if-m-j.false (omega (arith, c.if-x-y.false, c.if-y-x.false))
    c.put_both-next.ensures

pub returns : goal.returns
returns c = merged _ _ _ _ _ _ _ _ c.loop-i.invariant c.loop-i-test.false c.put_news.ensures
