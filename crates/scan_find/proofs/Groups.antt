-- How many bytes stand before the first b: whether there are as many as a group has is told byte by byte, and a search goes on after a group.
use mathlib.Core.Path.{◌≡◌, sym, ap, ◌∙◌}
use mathlib.Core.Bool.{true, not, ◌&&◌}
use mathlib.Core.List.{List, [], ◌∷◌}
use Prim.Native.Nat.{ℕ, zero, suc, ◌+◌, ◌≤◌, ◌<◌}
use native.Mathlib.Omega.{arith}
use native.Mathlib.Numerals.{add-one}
use lib.Dec.{eqb, leb}
use lib.ListN.{length, get_or, drop, length-drop}
use lib.Seq.{drop-drop, get_or-drop}
use borrow.Author.Tests.{le-leb, lt-leb, leb-true, leb-false}
use Rattle.forms.specs.Bytes.{run}
use Rattle.forms.proofs.Bools.{by_cases}
use Rattle.definitions.specs.Parts.{find}

leb_suc : (a b : ℕ) → leb (suc a) (suc b) ≡ leb a b
leb_suc a b =
    by_cases (leb a b)
    (λ t. le-leb (suc a) (suc b) (omega (arith, leb-true a b t)) ∙ sym t)
    (λ f. lt-leb (suc a) (suc b) (omega (arith, leb-false a b f)) ∙ sym f)

module _ (b : ℕ) where
  -- one more byte stands before the first b if it is another
  find_more : (l : List ℕ) (k : ℕ) → k < length l → leb (suc k) (find b l) ≡ (leb k (find b l) && not (eqb (get_or l k 0) b))
  unfolding find run
  find_more [] k h = absurd (omega (arith, h))
  find_more (x ∷ l) zero h =
      by_cases (eqb x b)
      (λ t. rw t)
      (λ f. rw f (le-leb 1 (suc (find b l)) (omega arith) ∙ sym (rw (le-leb 0 (suc (find b l)) (omega arith)))))
  find_more (x ∷ l) (suc k) h =
      by_cases (eqb x b)
      (λ t. rw (t, lt-leb (suc (suc k)) 0 (omega arith), lt-leb (suc k) 0 (omega arith)))
      (λ f. rw (f, leb_suc (suc k) (find b l), leb_suc k (find b l)) (find_more l k (omega (arith, h))))

  find_past : (l : List ℕ) (k : ℕ) → k ≤ find b l → find b l ≡ k + find b (drop k l)
  unfolding find run
  find_past l zero h = omega arith
  find_past [] (suc k) h = absurd (omega (arith, h))
  find_past (x ∷ l) (suc k) h =
      by_cases (eqb x b)
      (λ t. let none : suc k ≤ 0 = rw t at h in absurd (omega (arith, none)))
      (λ f. let more : suc k ≤ suc (find b l) = rw f at h in rw f (omega (arith, find_past l k (omega (arith, more)))))

module _ (s : List ℕ) (b : ℕ) where
  -- the next byte of a group
  pub group_more : (at k : ℕ) → at + k < length s
      → leb (k + 1) (find b (drop at s)) ≡ (leb k (find b (drop at s)) && not (eqb (get_or s (at + k) 0) b))
  group_more at k h =
      rw add-one
      (find_more b (drop at s) k (omega (arith, length-drop at s, h))
      ∙ ap (λ (x : ℕ). leb k (find b (drop at s)) && not (eqb x b)) (get_or-drop at s k 0))

  -- a search that began at a place goes on after a group
  pub group_past : (from i k : ℕ) → from + find b (drop from s) ≡ i + find b (drop i s) → leb k (find b (drop i s)) ≡ true
      → from + find b (drop from s) ≡ (i + k) + find b (drop (i + k) s)
  group_past from i k e t =
      omega (arith, e, find_past b (drop i s) k (leb-true k (find b (drop i s)) t), ap (find b) (drop-drop k i s))
