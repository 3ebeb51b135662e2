-- When bytes are pairs of hex digits: `-`, or digits to the end, an even count of them and more than none.
use Rattle.std.specs.List.{fold}
use mathlib.Core.Path.{◌≡◌, refl, sym, ◌∙◌}
use mathlib.Core.Bool.{Bool, true, false, not, ◌&&◌, and_assoc, and-true, and-false, true≢false}
use mathlib.Core.List.{List, [], ◌∷◌}
use Prim.Native.Nat.{ℕ, ◌%◌, ◌≤◌}
use native.Mathlib.Omega.{arith}
use lib.ListN.{length}
use lib.Dec.{eqb}
use Rattle.forms.specs.Bytes.{text}
use Rattle.forms.specs.Form.{has}
use Rattle.forms.proofs.Bools.{both_left, both_right}
use Rattle.definitions.specs.Lists.{all?, none?, same_bytes}
use Rattle.definitions.specs.Numbers.{hex_digits}
use Rattle.line_numbers.specs.HexPairs.{is_hex}

-- every byte is looked at, whatever came before
pub each_folded : (p : ℕ → Bool) (good : Bool) (s : List ℕ) → fold (λ (g : Bool) (b : ℕ). g && p b) good s ≡ (good && all? p s)
unfolding all?
each_folded p good [] = sym (and-true good)
each_folded p good (b ∷ s) = each_folded p (good && p b) s ∙ and_assoc good (p b) (all? p s)

not_short : (l : List ℕ) → 2 ≤ length l → same_bytes l (text "-") ≡ false
unfolding same_bytes
not_short [] h = refl
not_short (b ∷ []) h = absurd (omega (arith, h))
not_short (b ∷ (d ∷ l)) h = and-false (eqb b 45)

pub hex_none : (l : List ℕ) → same_bytes l (text "-") ≡ true → true ≡ is_hex l
unfolding is_hex
hex_none l e = rw e

pub hex_empty : (l : List ℕ) → length l ≡ 0 → false ≡ is_hex l
unfolding is_hex same_bytes
hex_empty [] e = refl
hex_empty (b ∷ l) e = absurd (omega (arith, e))

module _ (l : List ℕ) (e : same_bytes l (text "-") ≡ false) where
  pub hex_other : all? (has hex_digits) l ≡ false → false ≡ is_hex l
  unfolding is_hex
  hex_other f = rw (e, f) (sym (and-false (not (none? l))))

  pub hex_even : eqb (length l) 0 ≡ false → all? (has hex_digits) l ≡ true → eqb (length l % 2) 0 ≡ is_hex l
  unfolding is_hex
  hex_even n t = rw (e, t, some l n)
    where
      some : (k : List ℕ) → eqb (length k) 0 ≡ false → none? k ≡ false
      some [] m = absurd (true≢false m)
      some (b ∷ k) m = refl

pub hex_all : (l : List ℕ) → is_hex l ≡ true → 2 ≤ length l → all? (has hex_digits) l ≡ true
unfolding is_hex
hex_all l e h =
    let some : (not (none? l) && (all? (has hex_digits) l && eqb (length l % 2) 0)) ≡ true = rw (not_short l h) at e in
    both_left (all? (has hex_digits) l) (eqb (length l % 2) 0) (both_right (not (none? l)) (all? (has hex_digits) l && eqb (length l % 2) 0) some)
