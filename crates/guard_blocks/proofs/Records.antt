-- A record's packet and decoded buffer as slices have them, the verdict on it, and whether its number is set.
use mathlib.Core.Path.{◌≡◌, ap}
use mathlib.Core.Bool.{Bool, true, false, ◌&&◌}
use mathlib.Core.List.{List}
use Prim.Native.Nat.{ℕ, ◌+◌, ◌-◌, ◌≤◌}
use native.Mathlib.Omega.{arith}
use lib.ListN.{length, take, drop}
use borrow.Author.Rules.{part_to_end}
use borrow.Author.Tests.{eq-eqb, ne_eqb}
use Rattle.forms.proofs.Bools.{by_cases}
use Rattle.definitions.specs.declared.table.Table.{Table}
use Rattle.definitions.specs.declared.packets.Direction.{Direction}
use Rattle.definitions.specs.declared.packets.FieldMap.{FieldMap}
use Rattle.definitions.specs.Packet.{big_endian}
use Rattle.definitions.specs.Answers.{verdict_answer}
use Rattle.definitions.specs.Decisions.{is_met}
use Rattle.definitions.specs.Blocks.{record_head, record_length, record_direction, record_fields, record_of}
use Rattle.matcher.specs.PassedOver.{may_meet}
use Rattle.matcher.proofs.PassedOver.{passed_over}
use Rattle.guard_numbers.specs.OpenNumbers.{open_number, is_open}
use Rattle.guard_blocks.specs.Numbering.{meets_record}

module _ (s : List ℕ) where
  -- what a whole record has room for
  pub head_within : record_length s ≤ length s → record_head ≤ length s
  unfolding record_length
  head_within h = omega (arith, h)

  pub packet_within : {n : ℕ} → n ≡ big_endian 2 s 2 → record_length s ≤ length s → 30 + n ≤ length s
  unfolding record_length
  packet_within e h = omega (arith, e, h)

  pub decoded_within : {n d : ℕ} → n ≡ big_endian 2 s 2 → d ≡ big_endian 2 s 4 → record_length s ≤ length s → 30 + n + d ≤ length s
  unfolding record_length
  decoded_within e f h = omega (arith, e, f, h)

  pub packet_is : {n : ℕ} → n ≡ big_endian 2 s 2 → take (30 + n - 30) (drop 30 s) ≡ (record_of s).packet
  unfolding record_of
  packet_is {n} e = let z : 30 + n - 30 ≡ big_endian 2 s 2 = omega (arith, e) in ap (λ (k : ℕ). take k (drop 30 s)) z

  pub decoded_is : {n d : ℕ} → n ≡ big_endian 2 s 2 → d ≡ big_endian 2 s 4 → take (30 + n + d - (30 + n)) (drop (30 + n) s) ≡ (record_of s).decoded
  unfolding record_of
  decoded_is {n} {d} e f = let z : 30 + n + d - (30 + n) ≡ d = omega arith in rw (z, e, f)

-- a verdict on these is the verdict on the record
pub meets_told : (t : Table) (s : List ℕ) {p d : List ℕ} {dir : Direction} {m : FieldMap} → p ≡ (record_of s).packet → d ≡ (record_of s).decoded
    → dir ≡ record_direction s → m ≡ record_fields s → is_met (verdict_answer t p d dir m) ≡ meets_record t (record_of s)
unfolding meets_record record_of
meets_told t s e f g h = rw (e, f, g, h)

-- a table that is passed over for the record's packet does not meet it
pub may_told : (t : Table) {s l : List ℕ} → s ≡ l
    → may_meet t.protocol t.flow (record_of s).packet (record_direction s) ≡ may_meet t.protocol t.flow (record_of l).packet (record_direction l)
may_told t e = rw e

pub record_passed : (t : Table) (s : List ℕ) → may_meet t.protocol t.flow (record_of s).packet (record_direction s) ≡ false → meets_record t (record_of s) ≡ false
unfolding meets_record record_of
record_passed t s e = passed_over t (record_of s).packet (record_of s).decoded (record_direction s) (record_fields s) e

-- ---- the rest of a block as a slice has it

module _ (at : ℕ) (block : List ℕ) where
  pub whole_part : record_length (drop at block) ≤ length (drop at block)
      → record_length (take (length block - at) (drop at block)) ≤ length (take (length block - at) (drop at block))
  whole_part h = rw (part_to_end block at) h

-- ---- whether a packet's number is set

pub open_met : (x : ℕ) (b : Bool) → x ≡ open_number → b ≡ true → (is_open x && b) ≡ true
unfolding is_open
open_met x b e f = rw (eq-eqb x open_number e, f)

pub unmet : (x : ℕ) (b : Bool) → b ≡ false → (is_open x && b) ≡ false
unmet x b f = by_cases (is_open x) (λ t. rw (t, f)) (λ g. rw g)

pub closed_kept : (x : ℕ) (b : Bool) → (x ≡ open_number → ⊥) → (is_open x && b) ≡ false
unfolding is_open
closed_kept x b f = rw (ne_eqb x open_number f)
