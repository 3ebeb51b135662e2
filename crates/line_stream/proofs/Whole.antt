-- WHOLE LINES, where more than `most` bytes of a line change no answer and more are kept: what the program keeps is the first bytes of the line it has read,
-- and it answers them as it would the whole.
use mathlib.Core.Path.{◌≡◌, refl, sym, ap, ◌∙◌}
use mathlib.Core.List.{List, [], ◌∷◌, ◌++◌}
use Prim.Native.Nat.{ℕ, zero, suc, ◌<◌}
use native.Mathlib.Omega.{arith}
use lib.Dec.{eqb}
use lib.ListN.{length, take}
use lib.Seq.{take-nil}
use Rattle.forms.specs.Bytes.{text}
use Rattle.forms.proofs.Bools.{by_cases}
use Rattle.definitions.specs.Canonical.{decimal}
use Rattle.write_bytes.specs.Puts.{Puts}
use Rattle.write_bytes.proofs.Putting.{told}
use Rattle.line_stream.specs.declared.Begun.{Begun}
use Rattle.line_stream.specs.declared.Fed.{Fed}
use Rattle.line_stream.specs.Stream.{next_number, State, line_answer, byte_read, after, last_line, Feeds}
use Rattle.line_stream.specs.Whole.{whole_read, whole_after, whole_from, WholeLines, WholeLast}
use Rattle.line_stream.proofs.Keeping.{first_more}
use Rattle.line_stream.proofs.States.{begun_line}
use Rattle.line_stream.proofs.Feeds.{same_line, stands}

-- a state as the program keeps it
abbrev pub clipped : ℕ → State → State
clipped room st = begun_line st.number st.written (take room st.begun)

module _ (answer : List ℕ → List ℕ) (most : ℕ) (kept : (m : ℕ) (s : List ℕ) → most < m → answer (take m s) ≡ answer s) where
  module _ (room : ℕ) (roomy : most < room) where
    answer_clipped : (n : ℕ) (s : List ℕ) → line_answer answer n (take room s) ≡ line_answer answer n s
    answer_clipped n s = ap (λ (l : List ℕ). decimal n ++ (text "\t" ++ (l ++ text "\n"))) (kept room s roomy)

    read_clipped : (st : State) (b : ℕ) → byte_read answer room (clipped room st) b ≡ clipped room (whole_read answer st b)
    read_clipped st b =
        by_cases (eqb b 10)
        (λ t.
        rw t
        (ap (λ (l : List ℕ). begun_line (next_number st.number) (st.written ++ l) []) (answer_clipped st.number st.begun)
        ∙ ap (begun_line (next_number st.number) (st.written ++ line_answer answer st.number st.begun)) (sym (take-nil room))))
        (λ f. rw f (ap (begun_line st.number st.written) (first_more room st.begun b)))

    pub after_clipped : (st : State) (l : List ℕ) → after answer room (clipped room st) l ≡ clipped room (whole_after answer st l)
    unfolding after whole_after
    after_clipped st [] = refl
    after_clipped st (b ∷ l) = ap (λ (x : State). after answer room x l) (read_clipped st b) ∙ after_clipped (whole_read answer st b) l

    -- a last line too
    pub last_clipped : (n : ℕ) (s : List ℕ) → last_line answer n (take room s) ≡ last_line answer n s
    last_clipped n [] = ap (last_line answer n) (take-nil room)
    last_clipped n (b ∷ s) = some-kept room roomy
      where
        some-kept : (m : ℕ) → most < m → last_line answer n (take m (b ∷ s)) ≡ line_answer answer n (b ∷ s)
        some-kept zero g = absurd (let z : ⊥ = omega (arith, g) in z)
        some-kept (suc m) g = ap (λ (l : List ℕ). decimal n ++ (text "\t" ++ (l ++ text "\n"))) (kept (suc m) (b ∷ s) g)

  pub feeds_whole : {input line out line' out' : List ℕ} {b : Begun} {r : Fed} → most < length line → Feeds answer input line out b line' out' r
      → WholeLines answer input line b line' out' r
  feeds_whole {input = input} {line = line} {b = b} {r = r} roomy f = record {
    whole = λ s h.
        let l = take r.taken input in
        let st = whole_from answer b s l in
        let is = stands answer f
        ∙ ap (λ (x : List ℕ). after answer (length line) (begun_line b.number [] x) l) h
        ∙ after_clipped (length line) roomy (begun_line b.number [] s) l in (
          ap (λ (x : State). x.written) is,
          ap (λ (x : State). x.number) is,
          ap (λ (x : State). x.begun) is ∙ ap (λ (n : ℕ). take n st.begun) (sym (same_line answer f)),
        );
  }

  pub last_whole : {line out out' : List ℕ} {r : ℕ} (b : Begun) → most < length line → Puts out 0 (last_line answer b.number (take b.len line)) out' r
      → WholeLast answer line out b out' r
  last_whole {line = line} b roomy p = record {
    whole = λ s h. told (sym (ap (last_line answer b.number) h ∙ last_clipped (length line) roomy b.number s)) p;
  }
