-- The columns of a line together: the room that pairs need, each way in which a line is bad, and the line as its columns.
use Rattle.std.specs.Prelude.{Result, Ok, Err}
use mathlib.Core.Path.{◌≡◌, refl, sym, ap, ◌∙◌}
use mathlib.Core.Bool.{true, false, ◌&&◌, and-false}
use mathlib.Core.List.{List}
use Prim.Native.Nat.{ℕ, ◌*◌, ◌≤◌, ◌<◌}
use native.Mathlib.Omega.{arith}
use lib.ListN.{length}
use borrow.Author.Tests.{le-leb, lt-leb}
use Rattle.forms.specs.Bytes.{text}
use Rattle.definitions.specs.declared.packets.Direction.{Direction}
use Rattle.definitions.specs.declared.packets.FieldMap.{FieldMap}
use Rattle.definitions.specs.declared.answers.Refusal.{Refusal}
use Rattle.definitions.specs.declared.answers.Reading.{Reading}
use Rattle.definitions.specs.Limits.{document_limits}
use Rattle.definitions.specs.Reading.{read}
use Rattle.definitions.specs.Cases.{pairs}
use Rattle.definitions.specs.Parts.{contains, part_before, part_after, after_parts}
use Rattle.line_parts.proofs.Delimiters.{after_next, part_is, part_within}
use Rattle.line_packets.specs.declared.packets.PacketColumns.{PacketColumns}
use Rattle.definitions.specs.declared.answers.TextRefusal.{TextRefusal}
use Rattle.line_packets.specs.Packets.{is_packet, packet_of}
use Rattle.line_packets.proofs.FourColumns.{packet_and}
use Rattle.case_columns.specs.declared.Query.{Query}
use Rattle.case_columns.specs.Queries.{is_query, query_of}
use Rattle.case_lines.specs.CaseLines.{max_line, is_case, case_of}
use Rattle.case_lines.specs.CaseAnswers.{query_text, unread_text, outcome_text, reading_text, case_answer}
use Rattle.case_lines.specs.Columns.{max_pairs, are_columns, columns_text}

-- a lent array is long enough for the pairs of a line
pub room_is : {n : ℕ} → n ≡ max_pairs → max_line ≤ n * 2
room_is e = omega (arith, e)

-- ---- a text that is read

pub accepted_is :
    {x u y v : List ℕ} {r q : Reading} (dir : Direction) (m : FieldMap) (a : Query) → x ≡ u → y ≡ v → r ≡ q → r.outcome ≡ Ok tt
    → reading_text u v dir m q a ≡ query_text x y dir m r.table a
accepted_is {x = x} {u = u} {y = y} {v = v} {r = r} dir m a e f g h =
    ap (λ (w : Reading). reading_text u v dir m w a) (sym g)
    ∙ ap (λ (o : Result Unit TextRefusal). outcome_text u v dir m o r.table a) h
    ∙ ap (λ (w : List ℕ). query_text w v dir m r.table a) (sym e)
    ∙ ap (λ (w : List ℕ). query_text x w dir m r.table a) (sym f)

pub refused_is :
    (u v : List ℕ) {r q : Reading} (dir : Direction) (m : FieldMap) (a : Query) {w : Refusal} {place : ℕ}
    → r ≡ q → r.outcome ≡ Err (record { refusal = w; place = place }) → reading_text u v dir m q a ≡ unread_text w place
refused_is u v {r = r} dir m a g h =
    ap (λ (w : Reading). reading_text u v dir m w a) (sym g)
    ∙ ap (λ (o : Result Unit TextRefusal). outcome_text u v dir m o r.table a) h

-- ---- the columns

module _ (o p f d a s : List ℕ) where
  are_columns_lem : are_columns o p f d a s ≡ (is_packet o p f d && is_query a)
  unfolding are_columns
  are_columns_lem = packet_and o p f d (is_query a)

  pub no_query_lem : is_query a ≡ false → columns_text o p f d a s ≡ text "bad"
  unfolding columns_text
  no_query_lem n = rw (are_columns_lem, n, and-false (is_packet o p f d))

  pub no_packet : is_packet o p f d ≡ false → columns_text o p f d a s ≡ text "bad"
  unfolding columns_text
  no_packet n = rw (are_columns_lem, n)

  pub good_columns :
      is_query a ≡ true → is_packet o p f d ≡ true → (v : PacketColumns) → v ≡ packet_of o p f d → (k : Query) → k ≡ query_of a
      → columns_text o p f d a s ≡ reading_text (pairs p) (pairs d) v.direction v.fields (read document_limits s) k
  unfolding columns_text
  good_columns t u v ve k ke = rw (are_columns_lem, t, u, ve, ke)

-- ---- the line

pub long_line : (l : List ℕ) → max_line < length l → case_answer l ≡ text "bad"
unfolding case_answer is_case
long_line l h = rw (lt-leb (length l) max_line h)

module _
    (l r1 r2 r3 r4 : List ℕ) (h : length l ≤ max_line)
    (q1 : r1 ≡ part_after 9 l) (q2 : r2 ≡ part_after 9 r1) (q3 : r3 ≡ part_after 9 r2) (q4 : r4 ≡ part_after 9 r3)
  where
    zero : l ≡ after_parts 9 0 l
    unfolding after_parts
    zero = refl

    one : r1 ≡ after_parts 9 1 l
    one = after_next 9 0 l zero q1

    two : r2 ≡ after_parts 9 2 l
    two = after_next 9 1 l one q2

    three : r3 ≡ after_parts 9 3 l
    three = after_next 9 2 l two q3

    four : r4 ≡ after_parts 9 4 l
    four = after_next 9 3 l three q4

    pub few_tabs : contains 9 r4 ≡ false → case_answer l ≡ text "bad"
    unfolding case_answer is_case
    few_tabs e = rw (le-leb (length l) max_line h, ap (contains 9) (sym four) ∙ e)

    pub packet_le : (x : List ℕ) → x ≡ part_before 9 r1 → length x ≤ max_line
    packet_le x e = omega (arith, part_within 9 1 l one e, h)

    pub decoded_le : (x : List ℕ) → x ≡ part_before 9 r3 → length x ≤ max_line
    decoded_le x e = omega (arith, part_within 9 3 l three e, h)

    pub as-columns :
        contains 9 r4 ≡ true → (o p f d a s : List ℕ) → o ≡ part_before 9 l → p ≡ part_before 9 r1 → f ≡ part_before 9 r2
        → d ≡ part_before 9 r3 → a ≡ part_before 9 r4 → s ≡ part_after 9 r4 → case_answer l ≡ columns_text o p f d a s
    unfolding case_answer is_case case_of columns_text are_columns
    as-columns e o p f d a s oe pe fe de ae se =
        rw (
          le-leb (length l) max_line h,
          ap (contains 9) (sym four) ∙ e,
          part_is 9 0 l zero oe,
          part_is 9 1 l one pe,
          part_is 9 2 l two fe,
          part_is 9 3 l three de,
          part_is 9 4 l four ae,
          after_next 9 4 l four se,
        )
