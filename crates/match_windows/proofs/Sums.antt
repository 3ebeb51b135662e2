-- Sums and differences of signed numbers stay small: no larger than their operands together, and one or two more.
use Prim.Native.Nat.{ℕ, zero, suc, ◌+◌, ◌≤◌}
use native.Mathlib.Omega.{arith}
use lib.Dec.{ltb}
use lib.IntN.{ℤ, pos, negsuc, neg_ℤ, sub_ℕ, ◌+ℤ◌, ◌-ℤ◌}
use lib.Signed.{mag}
use borrow.Author.Tests.{ltb-true, ltb-false}
use Rattle.forms.proofs.Bools.{by_cases}

mag_sub : (a b : ℕ) → mag (sub_ℕ a b) ≤ a + b
mag_sub a b =
    by_cases (ltb a b)
    (λ e. let h = ltb-true a b e in rw e (omega arith))
    (λ e. let h = ltb-false a b e in rw e (omega arith))

pub mag_sum : (a z : ℤ) → mag (a +ℤ z) ≤ mag a + suc (mag z)
mag_sum (pos a) (pos n) = omega arith
mag_sum (pos a) (negsuc n) = mag_sub a (suc n)
mag_sum (negsuc a) (pos n) = omega (arith, mag_sub n (suc a))
mag_sum (negsuc a) (negsuc n) = omega arith

mag_negative : (z : ℤ) → mag (neg_ℤ z) ≤ suc (mag z)
mag_negative (pos zero) = omega arith
mag_negative (pos (suc n)) = omega arith
mag_negative (negsuc n) = omega arith

pub mag_difference : (a z : ℤ) → mag (a -ℤ z) ≤ mag a + suc (suc (mag z))
mag_difference a z = omega (arith, mag_sum a (neg_ℤ z), mag_negative z)

pub near_sum : (a z : ℤ) → mag (a +ℤ z) ≤ mag a + suc (suc (mag z))
near_sum a z = omega (arith, mag_sum a z)
