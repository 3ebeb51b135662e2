-- The two bytes, one after the other.
use Rattle.write_bytes.proofs.Putting.{then}
use Rattle.replay_records.proofs.heads.put_number.Goals as goal

pub returns : goal.returns
returns c = then c.put-next.ensures c.put.ensures
