-- Bits gathered from bytes are none where each byte is zero.
use mathlib.Core.Path.{◌≡◌, refl, sym, ◌∙◌}
use mathlib.Core.Bool.{Bool, true, false, ◌&&◌, and-true, and_assoc}
use mathlib.Core.List.{List, [], ◌∷◌}
use Prim.Native.Nat.{ℕ}
use native.Mathlib.Omega.{arith}
use lib.Bits.{bit_or, or_add_and, and_le_l, and_le_r}
use lib.Dec.{eqb}
use borrow.Author.Tests.{eqb-true, eqb-false, eq-eqb, ne_eqb}
use Rattle.definitions.specs.Lists.{all?}
use Rattle.definitions.specs.WellFormed.{is_zero}
use Rattle.std.specs.List.{fold}

pub no_bits : (a b : ℕ) → eqb (bit_or a b) 0 ≡ (eqb a 0 && eqb b 0)
no_bits a b = go (eqb a 0) refl (eqb b 0) refl
  where
    go : (s : Bool) → eqb a 0 ≡ s → (t : Bool) → eqb b 0 ≡ t → eqb (bit_or a b) 0 ≡ (s && t)
    go true e true f = eq-eqb (bit_or a b) 0 (omega (arith, or_add_and a b, eqb-true a 0 e, eqb-true b 0 f))
    go true e false f = ne_eqb (bit_or a b) 0 (λ z. eqb-false b 0 f (omega (arith, or_add_and a b, and_le_l a b, and_le_r a b, z)))
    go false e t f = ne_eqb (bit_or a b) 0 (λ z. eqb-false a 0 e (omega (arith, or_add_and a b, and_le_l a b, and_le_r a b, z)))

-- all of them gathered
pub gathered : (bits : ℕ) (s : List ℕ) → eqb (fold bit_or bits s) 0 ≡ (eqb bits 0 && all? is_zero s)
unfolding all?
gathered bits [] = sym (and-true (eqb bits 0))
gathered bits (b ∷ s) =
    gathered (bit_or bits b) s ∙ rw (no_bits bits b) (and_assoc (eqb bits 0) (is_zero b) (all? is_zero s))
