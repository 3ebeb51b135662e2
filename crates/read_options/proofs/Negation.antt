-- A number of 16 bits after an optional minus, in signed numbers of 32 bits.
use mathlib.Core.Path.{◌≡◌}
use mathlib.Core.Bool.{Bool, true, false}
use Prim.Native.Nat.{ℕ, zero, suc, ◌≤◌}
use native.Mathlib.Omega.{arith}
use lib.IntN.{pos, neg_ℤ}
use lib.Signed.{mag}
use mir.Syntax.{w32}
use mir.Val.{SFits, to_z, of_z}
use mir.ValLaws.{to_z-of_z, to_z_pos}
use Rattle.definitions.specs.Limits.{max_word}
use Rattle.definitions.specs.Forms.{signed}

mag_minus : (n : ℕ) → mag (neg_ℤ (pos n)) ≤ n
mag_minus zero = omega arith
mag_minus (suc m) = omega arith

module _ (n : ℕ) (h : n ≤ max_word) where
  pub plain_is : to_z w32 n ≡ pos n
  plain_is = to_z_pos w32 n (omega arith)

  small : SFits w32 (neg_ℤ (pos n))
  small = record { sfits = omega (arith, mag_minus n) }

  -- as a field of 32 bits it stays what it is
  pub signed_kept : (minus : Bool) → to_z w32 (of_z w32 (signed minus n)) ≡ signed minus n
  signed_kept true = to_z-of_z w32 (neg_ℤ (pos n)) small
  signed_kept false = plain_is
