-- Runs of bytes: one turn of the loop that passes over a run.
use mathlib.Core.Path.{◌≡◌, refl}
use mathlib.Core.Bool.{Bool, true, false}
use mathlib.Core.List.{List, [], ◌∷◌}
use Prim.Native.Nat.{ℕ, suc, ◌+◌, ◌≤◌, ◌<◌}
use native.Mathlib.Omega.{arith}
use native.Mathlib.Numerals.{add-one}
use lib.ListN.{length, get_or, drop, length-drop, drop_of_length-le}
use lib.Seq.{drop-cons}
use Rattle.forms.specs.Bytes.{run}
use Rattle.forms.specs.Form.{Class, has}
use Rattle.forms.proofs.Bools.{by_cases}

module _ (p : ℕ → Bool) (s : List ℕ) (i : ℕ) where
  run_step : i < length s → p (get_or s i 0) ≡ true → run p (drop i s) ≡ suc (run p (drop (suc i) s))
  unfolding run
  run_step h t = simp (drop-cons s i 0 h, t)

  run_stop : i < length s → p (get_or s i 0) ≡ false → run p (drop i s) ≡ 0
  unfolding run
  run_stop h t = simp (drop-cons s i 0 h, t)

  run_end : length s ≤ i → run p (drop i s) ≡ 0
  unfolding run
  run_end h = simp (drop_of_length-le s h)

-- what is still to come of a run that began at a place
abbrev pub Run : (ℕ → Bool) → List ℕ → ℕ → ℕ → Type 0
Run p s at i = at + run p (drop at s) ≡ i + run p (drop i s)

module _ (p : ℕ → Bool) (s : List ℕ) (at i : ℕ) (e : Run p s at i) where
  pub run_on : i < length s → p (get_or s i 0) ≡ true → Run p s at (i + 1)
  run_on h t = rw add-one (omega (arith, e, run_step p s i h t))

  pub run_halt : i < length s → p (get_or s i 0) ≡ false → i ≡ at + run p (drop at s)
  run_halt h t = omega (arith, e, run_stop p s i h t)

  pub run_out : length s ≤ i → i ≡ at + run p (drop at s)
  run_out h = omega (arith, e, run_end p s i h)

pub run_le : (p : ℕ → Bool) (l : List ℕ) → run p l ≤ length l
unfolding run
run_le p [] = omega arith
run_le p (b ∷ l) = by_cases (p b) (λ t. rw t (omega (arith, run_le p l))) (λ t. rw t (omega arith))

-- two tests that agree give one run
pub run_same : (p q : ℕ → Bool) → ((b : ℕ) → p b ≡ q b) → (l : List ℕ) → run p l ≡ run q l
unfolding run
run_same p q e [] = refl
run_same p q e (b ∷ l) = rw (e b, run_same p q e l)

pub run_in : (c : Class) (s : List ℕ) (at : ℕ) → at ≤ length s → at + run (has c) (drop at s) ≤ length s
run_in c s at h = omega (arith, run_le (has c) (drop at s), length-drop at s, h)
