-- The sum over digits may stand still far above every limit.
use mathlib.Core.Path.{◌≡◌, sym, ◌∙◌}
use mathlib.Core.List.{List, [], ◌∷◌}
use Prim.Native.Nat.{min, ℕ, suc, ◌+◌, ◌*◌, ◌≤◌, ◌<◌}
use native.Mathlib.Omega.{arith}
use native.Mathlib.Nat.{le-mul_of_pos_right, mul-le-mul}
use native.Mathlib.Numerals.{add-one}
use lib.ListN.{length, get_or, drop, drop_of_length-le}
use lib.Seq.{drop-cons}
use lib.Dec.{leb, ltb}
use borrow.Author.Tests.{ltb-true, ltb-false, le-ltb}
use Rattle.forms.proofs.Bools.{by_cases}
use Rattle.definitions.specs.Limits.{max_byte}
use Rattle.definitions.specs.Numbers.{digit_value, value_of}
use Rattle.scan_bytes.specs.Capped.{number_cap, capped}

-- a digit writes at most its byte
pub digit_le : (b : ℕ) → digit_value b ≤ b
unfolding digit_value
digit_le b = by_cases (leb b 57) (λ t. rw t (omega arith)) (λ t. rw t (by_cases (leb b 70) (λ u. rw u (omega arith)) (λ u. rw u (omega arith))))

-- ---- the sum that stands still

module _ (base : ℕ) (low : 1 ≤ base) where
  -- digits that follow make a number no smaller
  grows : (a : ℕ) (l : List ℕ) → a ≤ value_of base a l
  unfolding value_of
  grows a [] = omega arith
  grows a (b ∷ l) = omega (arith, le-mul_of_pos_right {m = base} a (omega arith), grows (a * base + digit_value b) l)

  capped_on : (x : ℕ) (l : List ℕ) → capped (value_of base (capped x) l) ≡ capped (value_of base x l)
  capped_on x l =
      by_cases (ltb x number_cap)
      (λ t. rw t)
      (λ t. let h = ltb-false x number_cap t in
      rw (t, le-ltb (value_of base number_cap l) number_cap (grows number_cap l), le-ltb (value_of base x l) number_cap (omega (arith, grows x l))))

  -- what the loop keeps: what is still to come of the sum
  pub record Sum (s : List ℕ) (v i : ℕ) : Type 0 where
    pub small : v ≤ number_cap
    pub sum : capped (value_of base 0 s) ≡ capped (value_of base v (drop i s))

capped_le : (x : ℕ) → capped x ≤ number_cap
capped_le x = by_cases (ltb x number_cap) (λ t. rw t (omega (arith, ltb-true x number_cap t))) (λ t. rw t (omega arith))

module _ (base : ℕ) (low : 1 ≤ base) (s : List ℕ) (v i : ℕ) (u : Sum base low s v i) where
  pub sum_on : i < length s → (x : ℕ) → x ≡ capped (v * base + digit_value (get_or s i 0)) → Sum base low s x (i + 1)
  unfolding value_of
  sum_on h x e =
      record {
        small = rw e (capped_le (v * base + digit_value (get_or s i 0)));
        sum = u.sum
            ∙ rw (drop-cons s i 0 h, e, add-one i) (sym (capped_on base low (v * base + digit_value (get_or s i 0)) (drop (suc i) s)));
      }

  pub sum_out : length s ≤ i → v ≡ capped (value_of base 0 s)
  unfolding value_of
  sum_out h =
      let k : capped v ≡ v = by_cases (ltb v number_cap) (λ t. rw t) (λ t. rw t (omega (arith, ltb-false v number_cap t, u.small))) in
      sym (u.sum ∙ rw (drop_of_length-le s h) k)

pub product_fits : (v base d : ℕ) → v ≤ number_cap → base ≤ 16 → d ≤ max_byte → v * base + d ≤ 68719477000
product_fits v base d h g k = omega (arith, mul-le-mul {n₁ = v} {m₁ = base} {n₂ = number_cap} {m₂ = 16} h g, k)

-- the smaller of a sum and the number far above
pub least_capped : (v : ℕ) → min v number_cap ≡ capped v
least_capped v = by_cases (ltb v number_cap) (λ t. rw t (omega (arith, ltb-true v number_cap t))) (λ t. rw t (omega (arith, ltb-false v number_cap t)))
