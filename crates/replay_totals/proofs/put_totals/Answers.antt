-- One after the other.
use Rattle.write_bytes.proofs.Putting.{then}
use Rattle.replay_totals.proofs.put_totals.Goals as goal

pub returns : goal.returns
returns c = then c.put_word-a1.ensures
    (then c.put_decimal-a2.ensures
    (then c.put-a3.ensures
    (then c.put_decimal-a4.ensures (then c.put-a5.ensures (then c.put_decimal-a6.ensures c.put.ensures)))))
