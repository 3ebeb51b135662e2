-- The six spans, one after the other.
use Rattle.write_bytes.proofs.Putting.{then}
use Rattle.replay_records.specs.RecordBytes.{fields_bytes}
use Rattle.replay_records.proofs.heads.put_fields.Goals as goal

pub returns : goal.returns
unfolding fields_bytes
returns c =
    let last = then c.put_span-a5.ensures c.put_span.ensures in
    then c.put_span-a1.ensures (then c.put_span-a2.ensures (then c.put_span-a3.ensures (then c.put_span-a4.ensures last)))
