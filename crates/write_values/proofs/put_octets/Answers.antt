use Rattle.write_bytes.proofs.Putting.{then}
use Rattle.write_values.proofs.put_octets.Goals as goal

pub returns : goal.returns
returns c = then c.put_decimal-a1.ensures
    (then c.put-a2.ensures
    (then c.put_decimal-a3.ensures
    (then c.put-a4.ensures
    (then c.put_decimal-a5.ensures
    (then c.put-a6.ensures c.put_decimal.ensures)))))
