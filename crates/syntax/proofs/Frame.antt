-- The tests of a whole text: a run as long as the list is a list that passes throughout; bytes that compare alike are the same bytes. Each by
-- induction on the list.
use mathlib.Core.Path.{◌≡◌, refl, sym, ap, ap₂, ◌∙◌}
use mathlib.Core.Bool.{Bool, true, false}
use mathlib.Core.List.{List, [], ◌∷◌, ◌++◌}
use mathlib.Core.Logic.{◌↔◌}
use Prim.Native.Nat.{ℕ, suc, ◌+◌, ◌-◌, ◌<◌}
use native.Mathlib.Omega.{arith}
use lib.ListN.{length, length-append, take, drop, length-drop, take-append-drop}
use lib.Seq.{drop-drop, drop-append_seam, take-append_seam}
use lib.Dec.{eqb, ltb}
use borrow.Author.Tests.{ltb-false, le-ltb, eqb-true, eq-eqb}
use Rattle.forms.specs.Bytes.{run}
use Rattle.forms.proofs.Bools.{by_cases, both_left, both_right}
use Rattle.forms.proofs.Sound.{never}
use Rattle.definitions.specs.Lists.{all?, same_bytes}
use Rattle.definitions.specs.Options.{printable, opening}
use Rattle.list_laws.proofs.Runs.{run_le}

-- ---- places

-- after x, which stands at a place
pub after : (s : List ℕ) (at : ℕ) (x r : List ℕ) → drop at s ≡ x ++ r → drop (at + length x) s ≡ r
after s at x r d = sym (drop-drop (length x) at s) ∙ rw d (drop-append_seam x r)

-- the place after x, told by what is left
pub place_after_lem : (s : List ℕ) (at : ℕ) (x r : List ℕ) → drop at s ≡ x ++ r → 0 < length x → length s - length r ≡ at + length x
place_after_lem s at x r d h = let l : length s - at ≡ length x + length r = sym (length-drop at s) ∙ ap length d ∙ length-append x r in omega (arith, l, h)

-- so many bytes from a place on, and the rest
pub parted : (s : List ℕ) (at n : ℕ) (r : List ℕ) → drop (at + n) s ≡ r → drop at s ≡ take n (drop at s) ++ r
parted s at n r d = sym (take-append-drop n (drop at s)) ∙ ap (λ u. take n (drop at s) ++ u) (drop-drop n at s ∙ d)

-- ---- printable

module _ (p : ℕ → Bool) where
  pub all_run : (s : List ℕ) → all? p s ≡ true → run p s ≡ length s
  unfolding all? run
  all_run [] e = refl
  all_run (b ∷ s) e = rw (both_left (p b) (all? p s) e) (ap suc (all_run s (both_right (p b) (all? p s) e)))

  pub run_all : (s : List ℕ) → run p s ≡ length s → all? p s ≡ true
  unfolding all? run
  run_all [] e = refl
  run_all (b ∷ s) e =
      by_cases (p b)
      (λ t. let q : suc (run p s) ≡ suc (length s) = rw t at e in rw t (run_all s (omega (arith, q))))
      (λ t. let q : 0 ≡ suc (length s) = rw t at e in absurd (omega (arith, q)))

  pub run_exactly : (s : List ℕ) → (ltb (run p s) (length s) ≡ false) ↔ (all? p s ≡ true)
  run_exactly s = (
    λ e. let g = ltb-false (run p s) (length s) e in run_all s (omega (arith, g, run_le p s)),
    λ e. let q = all_run s e in le-ltb (run p s) (length s) (omega (arith, q)),
  )

-- no byte below 0x20 or above 0x7E: the run of printable bytes is the whole text
pub printed_exactly : (s : List ℕ) → (ltb (run printable s) (length s) ≡ false) ↔ (all? printable s ≡ true)
printed_exactly s = run_exactly printable s

-- ---- the opening

pub same_bytes_lem : (x y : List ℕ) → same_bytes x y ≡ true → x ≡ y
unfolding same_bytes
same_bytes_lem [] [] e = refl
same_bytes_lem [] (b ∷ y) e = never (cc)
same_bytes_lem (a ∷ x) [] e = never (cc)
same_bytes_lem (a ∷ x) (b ∷ y) e =
    ap₂ (λ c z. c ∷ z) (eqb-true a b (both_left (eqb a b) (same_bytes x y) e)) (same_bytes_lem x y (both_right (eqb a b) (same_bytes x y) e))

pub bytes_same : (x : List ℕ) → same_bytes x x ≡ true
unfolding same_bytes
bytes_same [] = refl
bytes_same (a ∷ x) = rw (eq-eqb a a refl) (bytes_same x)

module _ (w s : List ℕ) where
  pub front_exactly : (same_bytes (take (length w) s) w ≡ true) ↔ (s ≡ w ++ drop (length w) s)
  front_exactly = (
    λ e. sym (take-append-drop (length w) s) ∙ ap (λ x. x ++ drop (length w) s) (same_bytes_lem (take (length w) s) w e),
    λ e. ap (λ x. same_bytes x w) (ap (take (length w)) e ∙ take-append_seam w (drop (length w) s)) ∙ bytes_same w,
  )

-- a text begins with `F-SBID(`
pub opened_exactly : (s : List ℕ) → (same_bytes (take (length opening) s) opening ≡ true) ↔ (s ≡ opening ++ drop (length opening) s)
opened_exactly s = front_exactly opening s
