-- The header fields of a packet for which neither 20 nor any of 30 to 34 is due. Document 01, section "Numbers of refusal".
use Rattle.std.specs.Prelude.{Bool, not, List, ℕ, Result}
use Rattle.definitions.specs.declared.answers.Refusal.TheVariants as refusal
use Rattle.definitions.specs.declared.answers.Refusal.{Refusal}
use Rattle.definitions.specs.declared.packets.PacketHeader.{PacketHeader}
use Rattle.definitions.specs.Refusals.{refuse_if}
use Rattle.definitions.specs.Packet.{datagram_of, packet_check, packet_by}

-- 20 unless the table is well formed, then 30 to 34
abbrev pub table_and_packet_check : Bool → List ℕ → List ℕ → Result Unit Refusal
table_and_packet_check formed p decoded = refuse_if (not formed) refusal.IllFormed (packet_check p decoded)

-- the header fields of the datagram, or the first due of these
abbrev pub input_header : Bool → List ℕ → List ℕ → Result PacketHeader Refusal
input_header formed p decoded = packet_by (table_and_packet_check formed p decoded) (datagram_of p)
