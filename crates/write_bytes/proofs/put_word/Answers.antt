-- Past the end the word is counted only (`all_past`); else as the two callees put it.
use native.Mathlib.Omega.{arith}
use Rattle.write_bytes.proofs.Putting.{all_past}
use Rattle.write_bytes.proofs.put_word.Goals as goal

pub returns-then-room-at : goal.returns-then-room-at
returns-then-room-at c =
    let x = c.args in
    all_past x.out.now x.at x.w.now c.if-room-at.true (omega arith)
