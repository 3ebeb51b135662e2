-- The loop has closed the numbers before its place, and the others are as they were.
use Prim.Native.Nat.{◌<◌}
use mathlib.Core.Path.{◌∙◌}
use lib.ListN.{length, take, get_or}
use Rattle.guard_numbers.specs.OpenNumbers.{closed}
use Rattle.guard_numbers.proofs.Tests.{closed_open, closed_other}
use Rattle.guard_numbers.proofs.Fronts.{front-set}
use Rattle.guard_numbers.proofs.close_all.Goals as goal
use Rattle.guard_numbers.proofs.close_all.Goals.{then-number-eq-OPEN, else-number-eq-OPEN}

pub loop-number-preserved : goal.loop-number-preserved
loop-number-preserved c =
    let l = c.loop-number in
    let first = take c.args.n c.args.out.now in
    let here : l.number-index < length first = c.loop-number-test.true in
    elim c.if-number-eq-OPEN.branch [
      | then-number-eq-OPEN w ↦ w.number-items-is
          ∙ front-set closed l.number-index first here l.number-items l.invariant 0 (closed_open _ w.if-number-eq-OPEN.true)
      | else-number-eq-OPEN w ↦ w.number-items-is
          ∙ front-set closed l.number-index first here l.number-items l.invariant (get_or l.number-items l.number-index 0) (closed_other _ w.if-number-eq-OPEN.false)
    ]
