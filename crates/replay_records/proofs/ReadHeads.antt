-- THE HEAD OF A RECORD read back: its bits tell which fields are present, and two bytes, big end first, give back a number below 65536.
use Rattle.std.specs.Prelude.{Option, Some, None}
use mathlib.Core.Path.{◌≡◌, refl}
use mathlib.Core.List.{List, ◌∷◌, ◌++◌}
use Prim.Native.Nat.{ℕ, ◌+◌, ◌*◌, ◌/◌, ◌%◌, ◌≤◌}
use native.Mathlib.Omega.{arith}
use lib.ListN.{get_or}
use Rattle.definitions.specs.declared.packets.Direction.{Direction}
use Rattle.definitions.specs.declared.packets.Direction.TheVariants.{Client, Server}
use Rattle.definitions.specs.declared.packets.FieldMap.{FieldMap}
use Rattle.definitions.specs.declared.packets.Span.{Span}
use Rattle.definitions.specs.Packet.{big_endian}
use Rattle.definitions.specs.Blocks.{record_direction, record_field, record_fields, packet_length, decoded_length}
use Rattle.guard_packets.proofs.Pairs.{pair_is}
use Rattle.line_fields.specs.FieldMaps.{max_span}
use Rattle.replay_records.specs.RecordBytes.{direction_byte, field_bit, field_bits, span_bytes, fields_bytes, head_bytes}
use Rattle.replay_records.proofs.MapNumbers.{start_of, length_of, SpanSmall, MapSmall}

-- ---- the bits

abbrev bit : Option Span → ℕ
bit None = 0
bit (Some s) = 1

pub record OneBit (f : Option Span) (weight : ℕ) : Type 0 where
  pub weighs : field_bit f weight ≡ weight * bit f
  pub small : bit f ≤ 1

one_bit : (f : Option Span) (weight : ℕ) → OneBit f weight
one_bit None weight = omega arith
one_bit (Some s) weight = omega arith

pub record SixBits (m : FieldMap) : Type 0 where
  pub body : OneBit m.body 1
  pub banner : OneBit m.banner 2
  pub file : OneBit m.file 4
  pub uri : OneBit m.uri 8
  pub header : OneBit m.header 16
  pub host : OneBit m.host 32

pub six_bits : (m : FieldMap) → SixBits m
six_bits m =
    record {
      body = one_bit m.body 1;
      banner = one_bit m.banner 2;
      file = one_bit m.file 4;
      uri = one_bit m.uri 8;
      header = one_bit m.header 16;
      host = one_bit m.host 32;
    }

-- each is read back by its weight
record BitsBack (m : FieldMap) : Type 0 where
  body : field_bits m / 1 % 2 ≡ bit m.body
  banner : field_bits m / 2 % 2 ≡ bit m.banner
  file : field_bits m / 4 % 2 ≡ bit m.file
  uri : field_bits m / 8 % 2 ≡ bit m.uri
  header : field_bits m / 16 % 2 ≡ bit m.header
  host : field_bits m / 32 % 2 ≡ bit m.host

last_bit : (m : FieldMap) → field_bits m / 32 ≡ bit m.host
unfolding field_bits
last_bit m = omega (arith, six_bits m)

last_bits : (m : FieldMap) → field_bits m / 16 ≡ bit m.header + 2 * bit m.host
unfolding field_bits
last_bits m = omega (arith, six_bits m)

bits_back : (m : FieldMap) → BitsBack m
unfolding field_bits
bits_back m =
    record {
      body = omega (arith, six_bits m);
      banner = omega (arith, six_bits m);
      file = omega (arith, six_bits m);
      uri = omega (arith, six_bits m);
      header = omega (arith, last_bits m, one_bit m.header 16);
      host = omega (arith, last_bit m, one_bit m.host 32);
    }

-- ---- two bytes

number_back : (l : List ℕ) (at n : ℕ) → n ≤ max_span → get_or l at 0 ≡ n / 256 % 256 → get_or l (at + 1) 0 ≡ n % 256 → big_endian 2 l at ≡ n
number_back l at n h high low = omega (arith, pair_is l at, h, high, low)

-- ---- a field

module _ (l : List ℕ) (weight at : ℕ) where
  field_back : (f : Option Span) → SpanSmall f → get_or l 1 0 / weight % 2 ≡ bit f
      → get_or l at 0 ≡ start_of f / 256 % 256 → get_or l (at + 1) 0 ≡ start_of f % 256
      → get_or l (at + 2) 0 ≡ length_of f / 256 % 256 → get_or l (at + 2 + 1) 0 ≡ length_of f % 256 → record_field l weight at ≡ f
  unfolding record_field
  field_back None s b p q u v = rw b
  field_back (Some x) s b p q u v = rw (b, number_back l at x.start s.start p q, number_back l (at + 2) x.len s.len u v)

-- ---- the whole head, byte by byte

abbrev pub span_onto : Option Span → List ℕ → List ℕ
span_onto f l = start_of f / 256 % 256 ∷ start_of f % 256 ∷ length_of f / 256 % 256 ∷ length_of f % 256 ∷ l

abbrev pub fields_onto : FieldMap → List ℕ → List ℕ
fields_onto m l =
    span_onto m.body (span_onto m.banner (span_onto m.file (span_onto m.uri (span_onto m.header (span_onto m.host l)))))

abbrev pub head_onto : Direction → FieldMap → ℕ → ℕ → List ℕ → List ℕ
head_onto dir m packet decoded l =
    direction_byte dir ∷ field_bits m ∷ packet / 256 % 256 ∷ packet % 256 ∷ decoded / 256 % 256 ∷ decoded % 256 ∷ fields_onto m l

span_onto_lem : (f : Option Span) (l : List ℕ) → span_bytes f ++ l ≡ span_onto f l
span_onto_lem None l = refl
span_onto_lem (Some s) l = refl

pub head_onto_lem : (dir : Direction) (m : FieldMap) (packet decoded : ℕ) (l : List ℕ) → head_bytes dir m packet decoded ++ l ≡ head_onto dir m packet decoded l
unfolding head_bytes fields_bytes
head_onto_lem dir m packet decoded l = simp span_onto_lem

direction_back : (dir : Direction) (l : List ℕ) → record_direction (direction_byte dir ∷ l) ≡ dir
unfolding record_direction
direction_back Client l = refl
direction_back Server l = refl

module _ (dir : Direction) (m : FieldMap) (packet decoded : ℕ) (l : List ℕ) where
  abbrev whole : List ℕ
  whole = head_onto dir m packet decoded l

  pub from_back : record_direction whole ≡ dir
  from_back = direction_back dir _

  pub packet_back : packet ≤ max_span → packet_length whole ≡ packet
  packet_back h = number_back whole 2 packet h refl refl

  pub decoded_back : decoded ≤ max_span → decoded_length whole ≡ decoded
  decoded_back h = number_back whole 4 decoded h refl refl

  pub fields_back : MapSmall m → record_fields whole ≡ m
  unfolding record_fields
  fields_back s =
      let bits = bits_back m in
      rw (
        field_back whole 1 6 m.body s.body bits.body refl refl refl refl,
        field_back whole 2 10 m.banner s.banner bits.banner refl refl refl refl,
        field_back whole 4 14 m.file s.file bits.file refl refl refl refl,
        field_back whole 8 18 m.uri s.uri bits.uri refl refl refl refl,
        field_back whole 16 22 m.header s.header bits.header refl refl refl refl,
        field_back whole 32 26 m.host s.host bits.host refl refl refl refl,
      )
