use Rattle.write_values.proofs.LeftOut.{prefix_given}
use Rattle.write_bytes.proofs.Putting.{then, told}
use Rattle.write_values.proofs.put_address.Goals as goal

pub returns : goal.returns
returns c = told (prefix_given c.args.a c.if-a-eq-MAX_PREFIX.false) (then c.put_octets-a1.ensures (then c.put-a2.ensures c.put_decimal.ensures))
