-- The columns of a line together: the room that pairs need, each way in which a line is bad, and the line as its columns.
use Rattle.std.specs.Prelude.{Result}
use mathlib.Core.Path.{◌≡◌, refl, sym, ap, ◌∙◌}
use mathlib.Core.Bool.{true, false, ◌&&◌, and-false}
use mathlib.Core.List.{List}
use Prim.Native.Nat.{ℕ, ◌*◌, ◌≤◌, ◌<◌}
use native.Mathlib.Omega.{arith}
use lib.ListN.{length}
use borrow.Author.Tests.{le-leb, lt-leb}
use Rattle.forms.specs.Bytes.{text}
use Rattle.definitions.specs.declared.packets.Direction.{Direction}
use Rattle.definitions.specs.declared.packets.FieldMap.{FieldMap}
use Rattle.definitions.specs.declared.books.Decision.{Decision}
use Rattle.definitions.specs.Limits.{document_limits}
use Rattle.definitions.specs.Decisions.{decision}
use Rattle.definitions.specs.Cases.{pairs}
use Rattle.definitions.specs.Parts.{contains, part_before, part_after, after_parts}
use Rattle.line_parts.proofs.Delimiters.{after_parts-le, after_next, part_is, part_within}
use Rattle.line_numbers.specs.HexPairs.{is_hex}
use Rattle.line_packets.specs.declared.packets.PacketColumns.{PacketColumns}
use Rattle.definitions.specs.declared.answers.BookRefusal.{BookRefusal}
use Rattle.line_packets.specs.Packets.{is_packet, packet_of}
use Rattle.line_packets.proofs.FourColumns.{packet_and}
use Rattle.decision_lines.specs.DecisionLines.{max_line, is_decision_line, decision_text, decision_answer}
use Rattle.decision_lines.specs.Columns.{max_pairs, are_columns, columns_text}

-- a lent array is long enough for the pairs of a line
pub room_is : {n : ℕ} → n ≡ max_pairs → max_line ≤ n * 2
room_is e = omega (arith, e)

-- ---- a decision by the bytes that the pairs wrote

pub decided-is :
    {p u d v b w : List ℕ} {r : Result Decision BookRefusal} (dir : Direction) (m : FieldMap) → p ≡ u → d ≡ v → b ≡ w → r ≡ decision document_limits p d dir m b
    → decision_text (decision document_limits u v dir m w) ≡ decision_text r
decided-is dir m e f g h = cc

-- ---- the columns

module _ (o p f d b : List ℕ) where
  are_columns_lem : are_columns o p f d b ≡ (is_packet o p f d && is_hex b)
  unfolding are_columns
  are_columns_lem = packet_and o p f d (is_hex b)

  pub no_book : is_hex b ≡ false → columns_text o p f d b ≡ text "bad"
  unfolding columns_text
  no_book n = rw (are_columns_lem, n, and-false (is_packet o p f d))

  pub no_packet : is_packet o p f d ≡ false → columns_text o p f d b ≡ text "bad"
  unfolding columns_text
  no_packet n = rw (are_columns_lem, n)

  pub good_columns : is_hex b ≡ true → is_packet o p f d ≡ true → (v : PacketColumns) → v ≡ packet_of o p f d
      → columns_text o p f d b ≡ decision_text (decision document_limits (pairs p) (pairs d) v.direction v.fields (pairs b))
  unfolding columns_text
  good_columns t u v e = rw (are_columns_lem, t, u, e)

-- ---- the line

pub long_line : (l : List ℕ) → max_line < length l → decision_answer l ≡ text "bad"
unfolding decision_answer is_decision_line
long_line l h = rw (lt-leb (length l) max_line h)

module _
    (l r1 r2 r3 : List ℕ) (h : length l ≤ max_line)
    (q1 : r1 ≡ part_after 9 l) (q2 : r2 ≡ part_after 9 r1) (q3 : r3 ≡ part_after 9 r2)
  where
    zero : l ≡ after_parts 9 0 l
    unfolding after_parts
    zero = refl

    one : r1 ≡ after_parts 9 1 l
    one = after_next 9 0 l zero q1

    two : r2 ≡ after_parts 9 2 l
    two = after_next 9 1 l one q2

    three : r3 ≡ after_parts 9 3 l
    three = after_next 9 2 l two q3

    pub few_tabs : contains 9 r3 ≡ false → decision_answer l ≡ text "bad"
    unfolding decision_answer is_decision_line
    few_tabs e = rw (le-leb (length l) max_line h, ap (contains 9) (sym three) ∙ e)

    pub packet_le : {x : List ℕ} → x ≡ part_before 9 r1 → length x ≤ max_line
    packet_le e = omega (arith, part_within 9 1 l one e, h)

    pub decoded_le : {x : List ℕ} → x ≡ part_before 9 r3 → length x ≤ max_line
    decoded_le e = omega (arith, part_within 9 3 l three e, h)

    pub book_le : {x : List ℕ} → x ≡ part_after 9 r3 → length x ≤ max_line
    book_le e = omega (arith, ap length (after_next 9 3 l three e), after_parts-le 9 4 l, h)

    pub as-columns :
        contains 9 r3 ≡ true → {o p f d b : List ℕ} → o ≡ part_before 9 l → p ≡ part_before 9 r1 → f ≡ part_before 9 r2
        → d ≡ part_before 9 r3 → b ≡ part_after 9 r3 → decision_answer l ≡ columns_text o p f d b
    unfolding decision_answer is_decision_line columns_text are_columns
    as-columns e oe pe fe de be =
        rw (
          le-leb (length l) max_line h,
          ap (contains 9) (sym three) ∙ e,
          part_is 9 0 l zero oe,
          part_is 9 1 l one pe,
          part_is 9 2 l two fe,
          part_is 9 3 l three de,
          after_next 9 3 l three be,
        )
