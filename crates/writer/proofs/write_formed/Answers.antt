-- By what was counted: the room has the length that a canonical text may have, so what was counted there is the text's length, or too much.
use native.Mathlib.Omega.{arith}
use Rattle.writer.proofs.Measured.{room-refused, room-written}
use Rattle.writer.proofs.write_formed.Goals as goal

pub returns-then-n-gt-CANONICAL_BYTES : goal.returns-then-n-gt-CANONICAL_BYTES
returns-then-n-gt-CANONICAL_BYTES c =
    let x = c.args in
    let z = room-refused x.t c.requires x.room.now (omega arith) (c.put_canonical-n.ensures x.t.used) c.if-n-gt-CANONICAL_BYTES.true in
    record { answer = z.0; put = z.1 }

pub returns : goal.returns
returns c =
    let x = c.args in
    let z = room-written x.t c.requires x.room.now (omega arith) (c.put_canonical-n.ensures x.t.used) c.if-n-gt-CANONICAL_BYTES.false in
    record { answer = z.0; put = z.1 }
