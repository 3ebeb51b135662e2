-- The loop that gives lines their numbers (`Numbering`): those before its place have them, and what all come to is these and what the others come to with the
-- numbers that are not used. A bad line keeps its mark (`numbering_bad`), a good one gets the next number (`numbering_good`).
use mathlib.Core.Path.{◌≡◌, refl, sym, ap, ◌∙◌}
use mathlib.Core.List.{List, [], ◌∷◌, ◌++◌, append-nil}
use Prim.Native.Nat.{ℕ, ◌+◌, ◌≤◌, ◌<◌}
use native.Mathlib.Omega.{arith}
use native.Mathlib.Numerals.{add-one}
use lib.ListN.{length, get_or, take, drop, set, length-set}
use lib.Seq.{drop-drop, get_or-drop, take-suc, take-suc-set, take-set-lt, drop-set-lt, append_snoc}
use borrow.Author.Tests.{eq-eqb, ne_eqb}
use Rattle.list_laws.proofs.Firsts.{first_here, first_out}
use Rattle.replay_totals.specs.OutcomeNumbers.{bad_number}
use Rattle.replay_batches.specs.Numbers.{numbered}

pub record Numbering (marks₀ : List ℕ) (n : ℕ) (numbers marks : List ℕ) (k i : ℕ) : Type 0 where
  pub few : i ≤ n
  pub used : k ≤ i
  pub same : length marks ≡ length marks₀
  pub answer : numbered (take n marks₀) numbers ≡ take i marks ++ numbered (drop i (take n marks)) (drop k numbers)

pub numbering_in : (marks : List ℕ) (n : ℕ) (numbers : List ℕ) → Numbering marks n numbers marks 0 0
numbering_in marks n numbers = record { few = omega arith; used = omega arith; same = refl; answer = refl }

module _ {marks₀ : List ℕ} {n : ℕ} {numbers marks : List ℕ} {k i : ℕ} (w : Numbering marks₀ n numbers marks k i) where
  pub numbering_out : n ≤ i → take n marks ≡ numbered (take n marks₀) numbers
  unfolding numbered
  numbering_out h =
      let all : i ≡ n = omega (arith, w.few) in
      sym (w.answer ∙ rw (first_out marks n i h, append-nil (take i marks)) (ap (λ (m : ℕ). take m marks) all))

  module _ (more : i < n) (room : n ≤ length marks₀) where
    here : i < length marks
    here = omega (arith, more, room, w.same)

    step : (y : ℕ) (rest : List ℕ) → take i marks ++ (y ∷ rest) ≡ (take i marks ++ (y ∷ [])) ++ rest
    step y rest = sym (append_snoc (take i marks) y rest)

    pub numbering_bad : get_or marks i 0 ≡ bad_number → Numbering marks₀ n numbers marks k (i + 1)
    unfolding numbered
    numbering_bad e =
        record {
          few = omega (arith, more);
          used = omega (arith, w.used);
          same = w.same;
          answer =
              w.answer
              ∙ rw (first_here marks n i 0 more (omega (arith, room, w.same)), eq-eqb (get_or marks i 0) bad_number e, add-one i, take-suc marks i 0 here)
              (step (get_or marks i 0) _);
        }

    pub numbering_good : (get_or marks i 0 ≡ bad_number → ⊥) → Numbering marks₀ n numbers (set marks i (get_or numbers k 0)) (k + 1) (i + 1)
    unfolding numbered
    numbering_good f =
        let y = get_or numbers k 0 in
        let next = set marks i y in
        let z : k + 0 ≡ k = omega arith in
        let head : get_or (drop k numbers) 0 0 ≡ y = get_or-drop k numbers 0 0 ∙ ap (λ (m : ℕ). get_or numbers m 0) z in
        let front : take (i + 1) next ≡ take i marks ++ (y ∷ []) = ap (λ (m : ℕ). take m next) (add-one i) ∙ take-suc-set marks i y here in
        let rest : drop (i + 1) (take n next) ≡ drop (i + 1) (take n marks) =
        ap (drop (i + 1)) (take-set-lt n marks i y more) ∙ drop-set-lt (i + 1) (take n marks) i y (omega arith) in
        record {
          few = omega (arith, more);
          used = omega (arith, w.used);
          same = length-set marks i y ∙ w.same;
          answer =
              w.answer
              ∙ rw (
                first_here marks n i 0 more (omega (arith, room, w.same)),
                ne_eqb (get_or marks i 0) bad_number f,
                head,
                drop-drop 1 k numbers,
                front,
                rest,
              ) (step y _);
        }
