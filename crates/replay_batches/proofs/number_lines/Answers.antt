-- A bad line keeps its mark, and a good one gets the next number that is not used (`Numbering`).
use native.Mathlib.Omega.{arith}
use Rattle.replay_batches.proofs.Numbering.{numbering_in, numbering_bad, numbering_good, numbering_out}
use Rattle.replay_batches.proofs.number_lines.Goals as goal
use Rattle.replay_batches.proofs.number_lines.Goals.{then-marks-i-ne-BAD, else-marks-i-ne-BAD}

pub loop-i-init : goal.loop-i-init
loop-i-init c = numbering_in _ _ _

pub loop-i-preserved : goal.loop-i-preserved
loop-i-preserved c =
    let room = c.requires.0 in
    elim c.if-marks-i-ne-BAD.branch [
      | then-marks-i-ne-BAD w ↦ rw (w.marks-is, w.k-is) (numbering_good c.loop-i.invariant (omega arith) room w.if-marks-i-ne-BAD.true)
      | else-marks-i-ne-BAD w ↦ rw (w.marks-is, w.k-is) (numbering_bad c.loop-i.invariant (omega arith) room w.if-marks-i-ne-BAD.false)
    ]

pub returns : goal.returns
returns c = numbering_out c.loop-i.invariant (omega arith)
