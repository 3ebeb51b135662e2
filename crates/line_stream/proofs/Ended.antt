-- THE LINES THAT END in some input, part by part: a part without LF ends none, an LF ends the line begun, and what is left is the line begun of the program's
-- state.
use Rattle.std.specs.Prelude.{if◌then◌else◌}
use mathlib.Core.Path.{◌≡◌, refl, sym, ap, ◌∙◌}
use mathlib.Core.Bool.{true, false}
use mathlib.Core.List.{List, [], ◌∷◌, ◌++◌, append_assoc, append-nil}
use Prim.Native.Nat.{ℕ, suc, ◌+◌, ◌≤◌, ◌<◌}
use native.Mathlib.Omega.{arith}
use native.Mathlib.Numerals.{add-one}
use lib.Dec.{eqb}
use lib.ListN.{length, get_or, take, drop}
use lib.Seq.{drop-cons, take-suc}
use borrow.Author.Tests.{not-true}
use Rattle.forms.proofs.Bools.{by_cases, both_left, both_right}
use Rattle.definitions.specs.Lists.{all?}
use Rattle.definitions.specs.Lines.{line_texts}
use Rattle.line_stream.specs.Stream.{State}
use Rattle.line_stream.specs.Steps.{in_line, lf_from, line_from}
use Rattle.line_stream.specs.Whole.{whole_read, whole_after}
use Rattle.line_stream.specs.Ended.{ended_lines, line_left, last_lines}
use Rattle.line_stream.proofs.Parts.{line_lf, line_inside, line_after_lem, line_rest}

-- ---- one part after the other

pub ended_append : (s a c : List ℕ) → ended_lines s (a ++ c) ≡ ended_lines s a ++ ended_lines (line_left s a) c
unfolding ended_lines line_left
ended_append s [] c = refl
ended_append s (b ∷ a) c =
    by_cases (eqb b 10) (λ t. rw t (ap (λ (ls : List (List ℕ)). s ∷ ls) (ended_append [] a c))) (λ f. rw f (ended_append (s ++ (b ∷ [])) a c))

-- a part without LF
pub ended_inside : (s a : List ℕ) → all? in_line a ≡ true → ended_lines s a ≡ []
unfolding ended_lines all?
ended_inside s [] t = refl
ended_inside s (b ∷ a) t =
    let isnt : eqb b 10 ≡ false = not-true (eqb b 10) (both_left (in_line b) (all? in_line a) t) in
    rw isnt (ended_inside (s ++ (b ∷ [])) a (both_right (in_line b) (all? in_line a) t))

pub left_inside : (s a : List ℕ) → all? in_line a ≡ true → line_left s a ≡ s ++ a
unfolding line_left all?
left_inside s [] t = sym (append-nil s)
left_inside s (b ∷ a) t =
    let isnt : eqb b 10 ≡ false = not-true (eqb b 10) (both_left (in_line b) (all? in_line a) t) in
    rw isnt (left_inside (s ++ (b ∷ [])) a (both_right (in_line b) (all? in_line a) t) ∙ append_assoc s (b ∷ []) a)

-- ---- up to a place of the input

module _ (s input : List ℕ) (i : ℕ) where
  -- as far as the next LF none ends
  pub ended_up_to : ended_lines s (take (lf_from input i) input) ≡ ended_lines s (take i input)
  ended_up_to =
      ap (ended_lines s) (line_after_lem input i)
      ∙ ended_append s (take i input) (line_from input i)
      ∙ ap (λ (ls : List (List ℕ)). ended_lines s (take i input) ++ ls) (ended_inside (line_left s (take i input)) (line_from input i) (line_inside input i))
      ∙ append-nil (ended_lines s (take i input))

  -- the LF ends the line begun
  pub ended_lf : i < length input → get_or input i 0 ≡ 10
      → ended_lines s (take (i + 1) input) ≡ ended_lines s (take i input) ++ (line_left s (take i input) ∷ [])
  unfolding ended_lines
  ended_lf h e =
      ap (λ (k : ℕ). ended_lines s (take k input)) (add-one i)
      ∙ ap (ended_lines s) (take-suc input i 0 h)
      ∙ ended_append s (take i input) (get_or input i 0 ∷ [])
      ∙ ap (λ (b : ℕ). ended_lines s (take i input) ++ ended_lines (line_left s (take i input)) (b ∷ [])) e

-- ---- from a place of the input on

module _ (s : List ℕ) (at : ℕ) where
  -- the next line and those after it
  pub ended_next : lf_from s at < length s → ended_lines [] (drop at s) ≡ line_from s at ∷ ended_lines [] (drop (lf_from s at + 1) s)
  unfolding ended_lines
  ended_next h =
      let end = lf_from s at in
      let l = line_from s at in
      ap (ended_lines []) (line_rest s at)
      ∙ ended_append [] l (drop end s)
      ∙ ap (λ (ls : List (List ℕ)). ls ++ ended_lines (line_left [] l) (drop end s)) (ended_inside [] l (line_inside s at))
      ∙ ap (λ (x : List ℕ). ended_lines x (drop end s)) (left_inside [] l (line_inside s at))
      ∙ ap (ended_lines l) (drop-cons s end 0 h)
      ∙ ap (λ (b : ℕ). ended_lines l (b ∷ drop (suc end) s)) (line_lf s at h)
      ∙ ap (λ (k : ℕ). l ∷ ended_lines [] (drop k s)) (sym (add-one end))

-- ---- all of the input

pub texts_on : (line : List ℕ) (b : ℕ) (l : List ℕ) → line_texts line (b ∷ l) ≡ (if eqb b 10 then line ∷ line_texts [] l else line_texts (line ++ (b ∷ [])) l)
unfolding line_texts
texts_on [] b l = refl
texts_on (x ∷ line) b l = refl

-- its lines are those that end in it, and the one that is left
pub texts_ended : (s l : List ℕ) → line_texts s l ≡ ended_lines s l ++ last_lines (line_left s l)
unfolding line_texts ended_lines line_left
texts_ended [] [] = refl
texts_ended (x ∷ s) [] = refl
texts_ended s (b ∷ l) =
    by_cases (eqb b 10)
    (λ t. texts_on s b l ∙ rw t (ap (λ (ls : List (List ℕ)). s ∷ ls) (texts_ended [] l)))
    (λ f. texts_on s b l ∙ rw f (texts_ended (s ++ (b ∷ [])) l))

-- the lines of one part after the other
pub texts_append : (s a c : List ℕ) → line_texts s (a ++ c) ≡ ended_lines s a ++ line_texts (line_left s a) c
unfolding ended_lines line_left
texts_append s [] c = refl
texts_append s (b ∷ a) c =
    by_cases (eqb b 10)
    (λ t. texts_on s b (a ++ c) ∙ rw t (ap (λ (ls : List (List ℕ)). s ∷ ls) (texts_append [] a c)))
    (λ f. texts_on s b (a ++ c) ∙ rw f (texts_append (s ++ (b ∷ [])) a c))

-- each has a byte of the input
pub ended_few : (s l : List ℕ) → length (ended_lines s l) ≤ length l
unfolding ended_lines
ended_few s [] = omega arith
ended_few s (b ∷ l) =
    by_cases (eqb b 10) (λ t. rw t (omega (arith, ended_few [] l))) (λ f. rw f (omega (arith, ended_few (s ++ (b ∷ [])) l)))

-- what is left is the line begun of the program's state
pub left_begun : (answer : List ℕ → List ℕ) (st : State) (l : List ℕ) → (whole_after answer st l).begun ≡ line_left st.begun l
unfolding whole_after line_left
left_begun answer st [] = refl
left_begun answer st (b ∷ l) =
    by_cases (eqb b 10) (λ t. left_begun answer (whole_read answer st b) l ∙ rw t) (λ f. left_begun answer (whole_read answer st b) l ∙ rw f)
