-- The head, the packet and the decoded buffer, one after the other; their lengths are halves of what their pairs have.
use Rattle.write_bytes.proofs.Putting.{then, told}
use Rattle.replay_records.specs.RecordBytes.{record_bytes}
use Rattle.replay_records.proofs.PairCounts.{pairs_half}
use Rattle.replay_records.proofs.put_record.Goals as goal

pub returns : goal.returns
unfolding record_bytes
returns c =
    let x = c.args in
    told
    (rw (pairs_half x.packet.now, pairs_half x.decoded.now))
    (then c.put_head-a1.ensures (then c.put_pairs-a2.ensures c.put_pairs.ensures))
