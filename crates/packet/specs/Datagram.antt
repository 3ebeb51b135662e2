-- A datagram by itself, and its payload's place in the packet. Sections "Packet and fields" and "Numbers of refusal".
use Rattle.std.specs.Prelude.{ℕ, ◌-◌, List, ltb, if◌then◌else◌, Option, Some, None, Result}
use Rattle.definitions.specs.declared.packets.PacketHeader.{PacketHeader}
use Rattle.definitions.specs.declared.answers.Refusal.{Refusal}
use Rattle.definitions.specs.declared.packets.Span.{Span}
use Rattle.definitions.specs.Packet.{datagram_check, packet_by}
use Rattle.definitions.specs.Fields.{shown, cut}

unfoldable pub datagram_answer : List ℕ → Result PacketHeader Refusal
datagram_answer d = packet_by (datagram_check d) d

-- from a start up to an end; no span where the end comes first
abbrev pub span_between : ℕ → ℕ → Option Span
span_between start end = if ltb end start then None else Some (record { start = start; len = end - start })

-- the payload reaches from its start up to the total length; the rest of the packet is padding
abbrev pub payload_span : PacketHeader → Option Span
payload_span f = span_between f.payload f.total

-- its bytes in a packet; none where they don't lie in it
unfoldable pub payload_part : List ℕ → PacketHeader → List ℕ
payload_part p f = cut (shown (payload_span f) p) p
