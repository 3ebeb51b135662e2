-- The lines still to come are those that end in the rest of the input from the loop's place on (`Gathering`); each has room, or the loop is left.
use native.Mathlib.Omega.{arith}
use Rattle.replay_batches.proofs.Gathering.{gather_first, gather_next}
use Rattle.replay_batches.proofs.gather.Goals as goal

pub loop-g-init : goal.loop-g-init
loop-g-init c =
    gather_first _ c.add_line-g.ensures (omega arith) (omega arith) (omega arith)

pub slice_bounds-add_line-count : goal.slice_bounds-add_line-count
slice_bounds-add_line-count c = omega (arith, c.lf_from-end.ensures)

pub slice_bounds-add_line-start : goal.slice_bounds-add_line-start
slice_bounds-add_line-start c = omega (arith, c.lf_from-end.ensures)

pub loop-g-smaller : goal.loop-g-smaller
loop-g-smaller c = omega (arith, c.lf_from-end.ensures, c.if-rest-end.false)

pub loop-g-preserved : goal.loop-g-preserved
loop-g-preserved c =
    gather_next _ c.loop-g.at c.lf_from-end.ensures c.if-rest-end.false c.loop-g.invariant c.add_line-g-in-loop-g.ensures
    (omega arith) (omega arith) (omega arith)

pub returns-after-loop-g : goal.returns-after-loop-g
returns-after-loop-g c = c.loop-g.invariant.so_far

pub returns-then-g : goal.returns-then-g
returns-then-g c = c.loop-g.invariant.so_far

pub returns-then-rest-end : goal.returns-then-rest-end
returns-then-rest-end c = c.loop-g.invariant.so_far
