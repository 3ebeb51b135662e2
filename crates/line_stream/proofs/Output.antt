-- A PROGRAM'S OUTPUT is what it has written after all its input, and the last line's answer.
use mathlib.Core.Path.{◌≡◌, refl, sym, ap, ◌∙◌}
use mathlib.Core.Bool.{true, false}
use mathlib.Core.List.{List, [], ◌∷◌, ◌++◌, append_assoc}
use Prim.Native.Nat.{ℕ, suc, ◌+◌, ◌<◌, ◌^◌}
use native.Mathlib.Omega.{arith}
use native.Mathlib.Numerals.{add-one}
use lib.Dec.{eqb}
use lib.ListN.{length, take}
use lib.Seq.{take-nil}
use borrow.Author.Tests.{lt-ltb}
use Rattle.forms.specs.Bytes.{text}
use Rattle.forms.proofs.Bools.{by_cases}
use Rattle.definitions.specs.Canonical.{decimal}
use Rattle.definitions.specs.Lines.{line_texts, lines_from, output_over}
use Rattle.line_stream.specs.Stream.{max_line_number, next_number, State, start, line_answer, after, last_line, output_of}
use Rattle.line_stream.specs.Whole.{whole_read, whole_after}
use Rattle.line_stream.specs.Ended.{ended_lines}
use Rattle.line_stream.proofs.States.{begun_line}
use Rattle.line_stream.proofs.Ended.{texts_on}
use Rattle.line_stream.proofs.Whole.{after_clipped, last_clipped}

-- the next line's number, where 64 bits hold it
pub next_is : (n k : ℕ) → n + suc k < 2 ^ 64 → next_number n ≡ suc n
next_is n k h = rw (lt-ltb n max_line_number (omega (arith, h))) (add-one n)

module _ (answer : List ℕ → List ℕ) where
  -- ---- line by line

  lines_on : (n : ℕ) (s : List ℕ) (ss : List (List ℕ)) → lines_from answer n (s ∷ ss) ≡ line_answer answer n s ++ lines_from answer (suc n) ss
  unfolding lines_from
  lines_on n s ss =
      ap (λ (l : List ℕ). decimal n ++ (9 ∷ l)) (sym (append_assoc (answer s) (text "\n") (lines_from answer (suc n) ss)))
      ∙ sym (append_assoc (decimal n) (9 ∷ (answer s ++ text "\n")) (lines_from answer (suc n) ss))

  texts_end : (n : ℕ) (line : List ℕ) → lines_from answer n (line_texts line []) ≡ last_line answer n line
  unfolding line_texts lines_from
  texts_end n [] = refl
  texts_end n (b ∷ line) = refl

  abbrev Comes : ℕ → List ℕ → List ℕ → List ℕ → Type 0
  Comes n s w input = w ++ lines_from answer n (line_texts s input) ≡ output_of answer (whole_after answer (begun_line n w s) input)

  module _ (n : ℕ) (s w : List ℕ) (b : ℕ) (l : List ℕ) where
    read_end : n + suc (length (ended_lines [] l)) < 2 ^ 64 → eqb b 10 ≡ true
        → whole_read answer (begun_line n w s) b ≡ begun_line (suc n) (w ++ line_answer answer n s) []
    read_end few t = rw t (ap (λ (m : ℕ). begun_line m (w ++ line_answer answer n s) []) (next_is n (length (ended_lines [] l)) few))

    comes_end : n + suc (length (ended_lines [] l)) < 2 ^ 64 → eqb b 10 ≡ true → Comes (suc n) [] (w ++ line_answer answer n s) l → Comes n s w (b ∷ l)
    unfolding whole_after
    comes_end few t next =
        ap (λ (x : List (List ℕ)). w ++ lines_from answer n x) (texts_on s b l ∙ rw t)
        ∙ ap (λ (x : List ℕ). w ++ x) (lines_on n s (line_texts [] l))
        ∙ sym (append_assoc w (line_answer answer n s) (lines_from answer (suc n) (line_texts [] l)))
        ∙ next
        ∙ ap (λ (x : State). output_of answer (whole_after answer x l)) (sym (read_end few t))

    comes_on : eqb b 10 ≡ false → Comes n (s ++ (b ∷ [])) w l → Comes n s w (b ∷ l)
    unfolding whole_after
    comes_on f next =
        let on : whole_read answer (begun_line n w s) b ≡ begun_line n w (s ++ (b ∷ [])) = rw f in
        ap (λ (x : List (List ℕ)). w ++ lines_from answer n x) (texts_on s b l ∙ rw f)
        ∙ next
        ∙ ap (λ (x : State). output_of answer (whole_after answer x l)) (sym on)

  to_come_lem : (n : ℕ) (s w input : List ℕ) → n + length (ended_lines s input) < 2 ^ 64 → Comes n s w input
  unfolding whole_after ended_lines
  to_come_lem n s w [] few = ap (λ (l : List ℕ). w ++ l) (texts_end n s)
  to_come_lem n s w (b ∷ l) few =
      by_cases (eqb b 10)
      (λ t.
      let more : n + suc (length (ended_lines [] l)) < 2 ^ 64 = rw t at few in
      comes_end n s w b l more t (to_come_lem (suc n) [] (w ++ line_answer answer n s) l (omega (arith, more))))
      (λ f. comes_on n s w b l f (to_come_lem n (s ++ (b ∷ [])) w l (rw f at few)))

  -- ---- and where more than `most` bytes of a line change no answer, and more are kept

  pub whole_output : (most room : ℕ) → ((m : ℕ) (s : List ℕ) → most < m → answer (take m s) ≡ answer s) → most < room → (input : List ℕ)
      → length (ended_lines [] input) + 1 < 2 ^ 64 → output_over answer input ≡ output_of answer (after answer room start input)
  unfolding output_over
  whole_output most room kept roomy input few =
      let st = whole_after answer start input in
      to_come_lem 1 [] [] input (omega (arith, few))
      ∙ ap (λ (l : List ℕ). st.written ++ l) (sym (last_clipped answer most kept room roomy st.number st.begun))
      ∙ ap (output_of answer) (sym (after_clipped answer most kept room roomy start input))
      ∙ ap (λ (s : List ℕ). output_of answer (after answer room (begun_line 1 [] s) input)) (take-nil room)
