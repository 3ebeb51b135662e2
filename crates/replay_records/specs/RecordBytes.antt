-- THE RECORD OF A PACKET, as a block has it (Blocks.antt of the definitions): 30 bytes, then the packet, then its decoded buffer.
use Rattle.std.specs.Prelude.{ℕ, ◌+◌, ◌/◌, ◌%◌, List, [], ◌∷◌, ◌++◌, length, if◌then◌else◌, Option, Some, None}
use Rattle.definitions.specs.declared.packets.Direction.{Direction}
use Rattle.definitions.specs.declared.packets.Direction.TheVariants.{Client, Server}
use Rattle.definitions.specs.declared.packets.FieldMap.{FieldMap}
use Rattle.definitions.specs.declared.packets.Span.{Span}
use Rattle.definitions.specs.Blocks.{PacketRecord}
use Rattle.replay_laws.specs.Traces.{is_trace_line, trace_record}

-- a number below 65536 as two bytes, big end first
abbrev pub number_bytes : ℕ → List ℕ
number_bytes n = n / 256 % 256 ∷ n % 256 ∷ []

abbrev pub direction_byte : Direction → ℕ
direction_byte Client = 0
direction_byte Server = 1

-- the weight of a field's bit, if it is present
abbrev pub field_bit : Option Span → ℕ → ℕ
field_bit None weight = 0
field_bit (Some s) weight = weight

unfoldable pub field_bits : FieldMap → ℕ
field_bits m =
    field_bit m.body 1 + field_bit m.banner 2 + field_bit m.file 4 + field_bit m.uri 8 + field_bit m.header 16 + field_bit m.host 32

-- start and length; zeros where it is absent
abbrev pub span_bytes : Option Span → List ℕ
span_bytes None = 0 ∷ 0 ∷ 0 ∷ 0 ∷ []
span_bytes (Some s) = number_bytes s.start ++ number_bytes s.len

unfoldable pub fields_bytes : FieldMap → List ℕ
fields_bytes m =
    span_bytes m.body ++ (span_bytes m.banner ++ (span_bytes m.file ++ (span_bytes m.uri ++ (span_bytes m.header ++ span_bytes m.host))))

-- the 30 bytes, by the lengths of packet and decoded buffer
unfoldable pub head_bytes : Direction → FieldMap → ℕ → ℕ → List ℕ
head_bytes dir m packet decoded =
    direction_byte dir ∷ field_bits m ∷ (number_bytes packet ++ (number_bytes decoded ++ fields_bytes m))

unfoldable pub record_bytes : PacketRecord → List ℕ
record_bytes k = head_bytes k.direction k.fields (length k.packet) (length k.decoded) ++ (k.packet ++ k.decoded)

-- what a line of a trace adds to a block: its record, or nothing if it is bad
unfoldable pub line_bytes : List ℕ → List ℕ
line_bytes l = if is_trace_line l then record_bytes (trace_record l) else []

-- and what some lines add
unfoldable pub lines_bytes : List (List ℕ) → List ℕ
lines_bytes [] = []
lines_bytes (l ∷ ls) = line_bytes l ++ lines_bytes ls

-- bytes that a line adds at most: 30, and those that its hex digits write
abbrev pub max_record : ℕ
max_record = 8222
