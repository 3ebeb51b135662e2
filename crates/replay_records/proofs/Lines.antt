-- A line of a trace by its columns: each way in which it is bad, and what it adds to a block.
use mathlib.Core.Path.{◌≡◌, refl, sym, ap, ◌∙◌}
use mathlib.Core.Bool.{true, false, ◌&&◌}
use mathlib.Core.List.{List, []}
use Prim.Native.Nat.{ℕ, ◌≤◌, ◌<◌}
use lib.ListN.{length}
use lib.Dec.{leb}
use borrow.Author.Tests.{le-leb, lt-leb, leb-true}
use Rattle.forms.proofs.Bools.{both_left, both_right}
use Rattle.definitions.specs.Cases.{pairs}
use Rattle.definitions.specs.Parts.{contains, part_before, part_after, after_parts, part}
use Rattle.write_bytes.specs.Puts.{Puts}
use Rattle.write_bytes.proofs.Putting.{none_put, told}
use Rattle.line_parts.proofs.Delimiters.{after_next, part_is}
use Rattle.line_numbers.specs.HexPairs.{is_hex}
use Rattle.line_fields.specs.FieldMaps.{is_map}
use Rattle.line_packets.specs.Directions.{is_direction}
use Rattle.line_packets.specs.declared.packets.PacketColumns.{PacketColumns}
use Rattle.line_packets.specs.Packets.{is_packet, packet_of}
use Rattle.replay_laws.specs.Traces.{max_trace_line, is_trace_line, trace_record}
use Rattle.replay_records.specs.RecordBytes.{record_bytes, line_bytes}

-- ---- what a line adds

module _ (l : List ℕ) where
  pub bad_bytes : is_trace_line l ≡ false → line_bytes l ≡ []
  unfolding line_bytes
  bad_bytes f = rw f

  pub good_bytes : is_trace_line l ≡ true → line_bytes l ≡ record_bytes (trace_record l)
  unfolding line_bytes
  good_bytes t = rw t

  module _ (t : is_trace_line l ≡ true) where
    after_length : (contains 9 (after_parts 9 2 l) && is_packet (part 9 0 l) (part 9 1 l) (part 9 2 l) (after_parts 9 3 l)) ≡ true
    unfolding is_trace_line
    after_length = both_right (leb (length l) max_trace_line) _ t

    pub good_short : length l ≤ max_trace_line
    unfolding is_trace_line
    good_short = leb-true (length l) max_trace_line (both_left (leb (length l) max_trace_line) _ t)

    pub good_map : is_map (part 9 2 l) ≡ true
    unfolding is_packet
    good_map =
        let p = is_hex (part 9 1 l) in
        let f = is_map (part 9 2 l) in
        let d = is_hex (after_parts 9 3 l) in
        let columns = both_right (contains 9 (after_parts 9 2 l)) _ after_length in
        both_left f d (both_right p (f && d) (both_right (is_direction (part 9 0 l)) (p && (f && d)) columns))

  -- nothing is put for a bad line
  pub bad_put : {out : List ℕ} {at : ℕ} → is_trace_line l ≡ false → (false ≡ is_trace_line l) × Puts out at (line_bytes l) out at
  bad_put f = (sym f, told (bad_bytes f) none_put)

-- ---- its columns

pub long_line : (l : List ℕ) → max_trace_line < length l → is_trace_line l ≡ false
unfolding is_trace_line
long_line l h = rw (lt-leb (length l) max_trace_line h)

module _ (l r1 r2 : List ℕ) (h : length l ≤ max_trace_line) (q1 : r1 ≡ part_after 9 l) (q2 : r2 ≡ part_after 9 r1) where
  zero : l ≡ after_parts 9 0 l
  unfolding after_parts
  zero = refl

  one : r1 ≡ after_parts 9 1 l
  one = after_next 9 0 l zero q1

  two : r2 ≡ after_parts 9 2 l
  two = after_next 9 1 l one q2

  pub few_tabs : contains 9 r2 ≡ false → is_trace_line l ≡ false
  unfolding is_trace_line
  few_tabs e = rw (le-leb (length l) max_trace_line h, ap (contains 9) (sym two) ∙ e)

  module _
      (e : contains 9 r2 ≡ true) {o p f d : List ℕ}
      (oe : o ≡ part_before 9 l) (pe : p ≡ part_before 9 r1) (fe : f ≡ part_before 9 r2) (de : d ≡ part_after 9 r2)
    where
      pub as-columns : is_trace_line l ≡ is_packet o p f d
      unfolding is_trace_line
      as-columns =
          rw (
            le-leb (length l) max_trace_line h,
            ap (contains 9) (sym two) ∙ e,
            part_is 9 0 l zero oe,
            part_is 9 1 l one pe,
            part_is 9 2 l two fe,
            after_next 9 2 l two de,
          )

      -- v is what the columns say beside the bytes
      pub good-put : is_packet o p f d ≡ true → (v : PacketColumns) → v ≡ packet_of o p f d → {out after : List ℕ} {at n : ℕ}
          → Puts out at (record_bytes (record { packet = pairs p; decoded = pairs d; direction = v.direction; fields = v.fields })) after n
          → (true ≡ is_trace_line l) × Puts out at (line_bytes l) after n
      unfolding trace_record
      good-put t v ve w =
          let good : is_trace_line l ≡ true = as-columns ∙ t in
          let same : trace_record l ≡ record { packet = pairs p; decoded = pairs d; direction = v.direction; fields = v.fields } =
          rw (ve, part_is 9 0 l zero oe, part_is 9 1 l one pe, part_is 9 2 l two fe, after_next 9 2 l two de) in
          (sym good, told (good_bytes l good ∙ ap record_bytes same) w)
