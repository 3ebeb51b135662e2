-- The loop that counts records: what the whole block holds is what is counted, with what the rest of the block holds of the records still asked for.
use Rattle.std.specs.Prelude.{if◌then◌else◌, Option, Some, None}
use mathlib.Core.Path.{◌≡◌, ap, ◌∙◌}
use mathlib.Core.List.{List, []}
use Prim.Native.Nat.{ℕ, suc, ◌+◌, ◌-◌, ◌≤◌, ◌<◌}
use native.Mathlib.Omega.{arith}
use lib.ListN.{length, take, drop, length-drop}
use lib.Seq.{drop-drop}
use lib.Dec.{leb}
use borrow.Author.Tests.{leb-true, leb-false, lt-leb}
use Rattle.forms.proofs.Bools.{by_cases}
use borrow.Author.Rules.{part_to_end}
use Rattle.definitions.specs.declared.books.Answered.{Answered}
use Rattle.definitions.specs.Blocks.{record_head, record_length, records_up_to, bytes_up_to, block_answered}
use Rattle.guard_packets.proofs.Records.{record_head_lem, record_suc, bytes_suc, record_none, bytes_none}

-- the length of the record at the front, if it is whole
abbrev whole : List ℕ → Option ℕ
whole l = if leb (record_length l) (length l) then Some (record_length l) else None

is_whole : (l : List ℕ) {len : ℕ} → Some len ≡ whole l → (len ≡ record_length l) × (record_length l ≤ length l)
is_whole l e =
    by_cases (leb (record_length l) (length l))
    (λ t. let h : Some _ ≡ Some (record_length l) = rw t at e in (cc, leb-true _ _ t))
    (λ f. absurd (let h : Some _ ≡ None = rw f at e in cc))

-- a record's head does not fit
pub headless : (l : List ℕ) → length l < record_head → None ≡ whole l
headless l h = rw (lt-leb (record_length l) (length l) (omega (arith, record_head_lem l)))

not-whole : (l : List ℕ) → None ≡ whole l → length l < record_length l
not-whole l e =
    by_cases (leb (record_length l) (length l))
    (λ t. absurd (let h : None ≡ Some (record_length l) = rw t at e in cc))
    (λ f. leb-false _ _ f)

pub record Counted (block : List ℕ) (n packets at : ℕ) : Type 0 where
  pub few : packets ≤ n
  pub inside : at ≤ length block
  pub count : length (records_up_to n block) ≡ packets + length (records_up_to (n - packets) (drop at block))
  pub bytes : bytes_up_to n block ≡ at + bytes_up_to (n - packets) (drop at block)

abbrev answer : ℕ → ℕ → Answered
answer packets at = record { packets = packets; bytes = at }

module _ {block : List ℕ} {n packets at : ℕ} (e : Counted block n packets at) where
  -- nothing is still to come
  done : records_up_to (n - packets) (drop at block) ≡ [] → bytes_up_to (n - packets) (drop at block) ≡ 0 → answer packets at ≡ block_answered block n
  unfolding block_answered
  done p q =
      let all : packets ≡ length (records_up_to n block) = omega (arith, e.count, ap length p) in
      let long : at ≡ bytes_up_to n block = omega (arith, e.bytes, q) in
      cc

  pub counted_all_lem : n ≤ packets → answer n at ≡ block_answered block n
  unfolding records_up_to bytes_up_to
  counted_all_lem h =
      let none : n - packets ≡ 0 = omega arith in
      let all : n ≡ packets = omega (arith, e.few) in
      ap (λ (k : ℕ). answer k at) all ∙ done (rw none) (rw none)

  -- the rest of the block, and as a slice has it
  abbrev rest : List ℕ
  rest = drop at block

  abbrev part : List ℕ
  part = take (length block - at) rest

  size : length part ≡ length rest
  size = ap length (part_to_end block at)

  short : length rest < record_length rest → answer packets at ≡ block_answered block n
  short h = done (record_none (n - packets) rest h) (bytes_none (n - packets) rest h)

  -- the record at the front is not whole
  pub counted_short : None ≡ whole part → answer packets at ≡ block_answered block n
  counted_short h = short (rw (part_to_end block at) at (not-whole part h))

  module _ {len : ℕ} (q : Some len ≡ whole part) where
    is_length : len ≡ record_length rest
    is_length = (is_whole part q).0 ∙ ap record_length (part_to_end block at)

    -- a record more
    module _ (more : packets < n) where
      inside : record_length rest ≤ length rest
      inside = let h = is_whole part q in omega (arith, size, is_length, h.0, h.1)

      left : n - packets ≡ suc (n - (packets + 1))
      left = omega arith

      after : drop (record_length rest) rest ≡ drop (at + len) block
      after = rw (← is_length) (drop-drop len at block)

      records : length (records_up_to (n - packets) rest) ≡ suc (length (records_up_to (n - (packets + 1)) (drop (at + len) block)))
      records = rw (left, record_suc (n - (packets + 1)) rest inside, after)

      long : bytes_up_to (n - packets) rest ≡ len + bytes_up_to (n - (packets + 1)) (drop (at + len) block)
      long = rw (left, bytes_suc (n - (packets + 1)) rest inside, after, is_length)

      pub counted-on : Counted block n (packets + 1) (at + len)
      counted-on =
          record {
            few = omega arith;
            inside = omega (arith, e.inside, inside, is_length, length-drop at block);
            count = omega (arith, e.count, records);
            bytes = omega (arith, e.bytes, long);
          }
