use native.Mathlib.Omega.{arith}
use Rattle.scan_pieces.proofs.Gaps.{run_end, run_none, run_some}
use Rattle.scan_pieces.proofs.runs.run_at.Goals as goal

pub returns-then-end-at : goal.returns-then-end-at
returns-then-end-at c =
    let h = c.requires in
    let e = c.run_of-end.ensures in
    (run_none _ _ _ _ h e c.if-end-at.true _, omega (arith, run_end _ _ _ _ h e, e))

pub returns-else-end-at : goal.returns-else-end-at
returns-else-end-at c =
    let h = c.requires in
    let e = c.run_of-end.ensures in
    (run_some _ _ _ _ h e c.if-end-at.false, omega (arith, run_end _ _ _ _ h e, e))
