-- Direction, bits, the two lengths and the spans, one after the other.
use Rattle.write_bytes.proofs.Putting.{then, told}
use Rattle.replay_records.specs.RecordBytes.{head_bytes}
use Rattle.replay_records.proofs.heads.put_head.Goals as goal

pub returns : goal.returns
unfolding head_bytes
returns c =
    let numbers = then c.put_number-a3.ensures (then c.put_number-a4.ensures c.put_fields.ensures) in
    told
    (rw (c.direction_byte.ensures, c.field_bits.ensures))
    (then c.put-a1.ensures (then c.put-a2.ensures numbers))
