-- The part of the span from the payload's start up to the total length.
use Rattle.packet.specs.Datagram.{payload_part}
use Rattle.packet.proofs.payload_of.Goals as goal

pub returns : goal.returns
unfolding payload_part
returns c =
    let part = rw c.span_between.ensures at c.part_of.ensures in
    record {
      bytes = part.bytes;
      part = part;
    }
