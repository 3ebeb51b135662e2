-- A signed number of 32 bits: its digits after its sign.
use mathlib.Core.Path.{◌≡◌, refl, subst}
use mathlib.Core.Bool.{true, false, true≢false}
use mathlib.Core.List.{◌++◌}
use Prim.Native.Nat.{◌+◌, ◌≤◌, ◌<◌, ◌^◌}
use native.Mathlib.Omega.{arith}
use lib.Dec.{T}
use lib.IntN.{ℤ, pos, negsuc, ◌-ℤ◌, nat_abs}
use lib.Signed.{mag, lt_z, non_neg, nat_abs-le}
use borrow.Author.Tests.{ltb-true, le-ltb}
use mir.Syntax.{w32, w64}
use mir.Val.{Fits, SFits, to_z, of_z}
use mir.ValLaws.{to_z-of_z}
use Rattle.forms.specs.Bytes.{text}
use Rattle.definitions.specs.Canonical.{decimal, decimalℤ, text_if}

-- the sign and the digits
signed_text : (z : ℤ) → decimalℤ z ≡ text_if (lt_z z (pos 0)) (text "-") ++ decimal (nat_abs z)
signed_text (pos n) = rw (le-ltb n 0 (omega arith))
signed_text (negsuc n) = refl

pub kept_text : (z : ℤ) → to_z w32 (of_z w32 z) ≡ z → decimalℤ z ≡ text_if (lt_z (to_z w32 (of_z w32 z)) (pos 0)) (text "-") ++ decimal (nat_abs (to_z w32 (of_z w32 z)))
kept_text z e = rw e (signed_text z)
