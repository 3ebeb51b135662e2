-- The test for a number that is not decided, and what it is in the end.
use Rattle.std.specs.List.{list_any}
use mathlib.Core.Path.{◌≡◌, refl, ap}
use mathlib.Core.Bool.{Bool, true, false, ◌||◌}
use mathlib.Core.List.{List, [], ◌∷◌}
use Prim.Native.Nat.{ℕ}
use lib.Dec.{eqb}
use borrow.Author.Tests.{eq-eqb, ne_eqb}
use Rattle.definitions.specs.Lists.{any?}
use Rattle.guard_numbers.specs.OpenNumbers.{open_number, is_open, closed}

module _ (x : ℕ) where
  pub open_is : x ≡ open_number → is_open x ≡ true
  unfolding is_open
  open_is e = eq-eqb x open_number e

  pub open_not : (x ≡ open_number → ⊥) → is_open x ≡ false
  unfolding is_open
  open_not n = ne_eqb x open_number n

  pub closed_open : x ≡ open_number → 0 ≡ closed x
  unfolding closed
  closed_open e = rw (open_is e)

  pub closed_other : (x ≡ open_number → ⊥) → x ≡ closed x
  unfolding closed
  closed_other n = rw (open_not n)

-- whether some number of a list is not decided
pub some_open : (l : List ℕ) → list_any (λ x. eqb x open_number) l ≡ any? is_open l
unfolding any? is_open
some_open [] = refl
some_open (x ∷ l) = ap (λ (b : Bool). eqb x open_number || b) (some_open l)
