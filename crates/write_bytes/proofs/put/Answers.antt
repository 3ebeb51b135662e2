-- A byte within the buffer is kept.
use Rattle.write_bytes.proofs.Putting.{one_put, one_past_lem}
use Rattle.write_bytes.proofs.put.Goals as goal
use Rattle.write_bytes.proofs.put.Goals.{then-at-out, else-at-out}

pub returns : goal.returns
returns c =
    elim c.if-at-out.branch [
      | then-at-out w ↦ rw w.out-is (one_put c.next_place.ensures)
      | else-at-out w ↦ rw w.out-is (one_past_lem w.if-at-out.false c.next_place.ensures)
    ]
