-- A BLOCK OF PACKETS, and what some rules decide for each. Document 02, T-03. A packet's record is 30 bytes, then the packet, then its decoded buffer:
-- byte 0, 0 if it comes from the client; byte 1, a bit for each field that is present; bytes 2 and 3, the packet's length; 4 and 5, the decoded buffer's; from 6 on,
-- for body, banner, file, uri, header and host, start and length. Numbers of two bytes have their big end first.
use Rattle.std.specs.Prelude.{ℕ, zero, suc, ◌+◌, ◌*◌, ◌/◌, ◌%◌, Bool, List, [], ◌∷◌, ◌++◌, map, length, get_or, take, drop, eqb, leb, if◌then◌else◌, Option, Some, None, Result, Ok, Err}
use Rattle.definitions.specs.declared.packets.Direction.{Direction}
use Rattle.definitions.specs.declared.packets.Direction.TheVariants.{Client, Server}
use Rattle.definitions.specs.declared.packets.FieldMap.{FieldMap}
use Rattle.definitions.specs.declared.books.Action.{Action}
use Rattle.definitions.specs.declared.books.Action.TheVariants as action
use Rattle.definitions.specs.declared.books.Decision.{Decision}
use Rattle.definitions.specs.declared.books.Answered.{Answered}
use Rattle.definitions.specs.declared.answers.BookRefusal.{BookRefusal}
use Rattle.definitions.specs.declared.packets.Span.{Span}
use Rattle.definitions.specs.Limits.{Limits}
use Rattle.definitions.specs.Packet.{big_endian}
use Rattle.definitions.specs.Books.{Rule}
use Rattle.definitions.specs.Decisions.{decided}

-- ---- a record

pub record PacketRecord : Type 0 where
  pub packet : List ℕ
  pub decoded : List ℕ
  pub direction : Direction
  pub fields : FieldMap

abbrev pub record_head : ℕ
record_head = 30

-- by the first bytes of a record: the lengths of packet, decoded buffer and record
abbrev pub packet_length : List ℕ → ℕ
packet_length l = big_endian 2 l 2

abbrev pub decoded_length : List ℕ → ℕ
decoded_length l = big_endian 2 l 4

unfoldable pub record_length : List ℕ → ℕ
record_length l = record_head + packet_length l + decoded_length l

unfoldable pub record_direction : List ℕ → Direction
record_direction l = if eqb (get_or l 0 0) 0 then Client else Server

-- the field whose bit has a weight and whose numbers stand at a place; these play no part where it is absent
unfoldable pub record_field : List ℕ → ℕ → ℕ → Option Span
record_field l weight at =
    if eqb (get_or l 1 0 / weight % 2) 1 then Some (record { start = big_endian 2 l at; len = big_endian 2 l (at + 2) }) else None

unfoldable pub record_fields : List ℕ → FieldMap
record_fields l =
    record {
      body = record_field l 1 6;
      banner = record_field l 2 10;
      file = record_field l 4 14;
      uri = record_field l 8 18;
      header = record_field l 16 22;
      host = record_field l 32 26;
    }

unfoldable pub record_of : List ℕ → PacketRecord
record_of l =
    record {
      packet = take (packet_length l) (drop record_head l);
      decoded = take (decoded_length l) (drop (record_head + packet_length l) l);
      direction = record_direction l;
      fields = record_fields l;
    }

-- ---- a block

-- up to n whole records
unfoldable pub records_up_to : ℕ → List ℕ → List PacketRecord
records_up_to zero l = []
records_up_to (suc n) l = if leb (record_length l) (length l) then record_of l ∷ records_up_to n (drop (record_length l) l) else []

-- the bytes of up to n whole records
unfoldable pub bytes_up_to : ℕ → List ℕ → ℕ
bytes_up_to zero l = 0
bytes_up_to (suc n) l = if leb (record_length l) (length l) then record_length l + bytes_up_to n (drop (record_length l) l) else 0

-- ---- the answers, a number for each packet: the deciding rule's, and 65536 more for pass

abbrev pub action_number : Action → ℕ
action_number action.Pass = 65536
action_number action.Hold = 0

abbrev pub decision_number : Result Decision BookRefusal → ℕ
decision_number (Ok d) = action_number d.action + d.rule
decision_number (Err e) = 0

module _ (lim : Limits) (rs : List Rule) where
  unfoldable pub record_number : PacketRecord → ℕ
  record_number k = decision_number (decided lim k.packet k.decoded k.direction k.fields rs)

  -- THE ANSWERS to a block: as many as there are whole records and room for; the room after them is as it was
  unfoldable pub block_numbers : List ℕ → List ℕ → List ℕ
  block_numbers block out = map record_number (records_up_to (length out) block) ++ drop (length (records_up_to (length out) block)) out

-- how many packets are answered, and their bytes, for so much room
unfoldable pub block_answered : List ℕ → ℕ → Answered
block_answered block n = record { packets = length (records_up_to n block); bytes = bytes_up_to n block }
