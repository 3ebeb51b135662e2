-- WHAT IS STILL TO BE PUT of what was to be put, after a part of it.
use mathlib.Core.Path.{◌≡◌, sym, ap, ◌∙◌}
use mathlib.Core.List.{List, [], ◌++◌}
use Prim.Native.Nat.{ℕ}
use Rattle.write_bytes.specs.Puts.{puts, Puts}
use Rattle.write_bytes.proofs.Putting.{onward}

-- of all that was to be put from a place of a buffer on, the bytes l are left, from a place of what the buffer is now
pub record Still (out₀ : List ℕ) (at₀ : ℕ) (all out : List ℕ) (at : ℕ) (l : List ℕ) : Type 0 where
  pub is : puts out₀ at₀ all ≡ puts out at l

module _ {out₀ : List ℕ} {at₀ : ℕ} {all out : List ℕ} {at : ℕ} {l : List ℕ} (h : Still out₀ at₀ all out at l) where
  -- a part of it was put
  pub still_on : {k m o : List ℕ} {n : ℕ} → l ≡ k ++ m → Puts out at k o n → Still out₀ at₀ all o n m
  still_on {m = m} e p = record { is = h.is ∙ ap (puts out at) e ∙ onward m p }

  -- nothing is left; all of it was put
  pub still_none : l ≡ [] → Puts out₀ at₀ all out at
  unfolding puts
  still_none e = record { is = sym (h.is ∙ ap (puts out at) e) }

  pub still_last : {k o : List ℕ} {n : ℕ} → l ≡ k → Puts out at k o n → Puts out₀ at₀ all o n
  still_last e p = record { is = p.is ∙ ap (puts out at) (sym e) ∙ sym h.is }
