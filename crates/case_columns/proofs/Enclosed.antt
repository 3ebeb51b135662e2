-- The brackets of an earlier placement: each way in which bytes do not stand between them.
use mathlib.Core.Path.{◌≡◌, refl, sym, ap, ◌∙◌}
use mathlib.Core.Bool.{true, false}
use mathlib.Core.List.{List, [], ◌∷◌}
use Prim.Native.Nat.{ℕ}
use native.Mathlib.Omega.{arith}
use lib.ListN.{length}
use lib.Dec.{eqb}
use borrow.Author.Tests.{ne_eqb}
use Rattle.definitions.specs.Lists.{none?}
use Rattle.definitions.specs.Parts.{contains, part_before, part_after}
use Rattle.case_columns.specs.Queries.{is_enclosed}

none_by : (l : List ℕ) → eqb (length l) 0 ≡ none? l
none_by [] = refl
none_by (b ∷ l) = ne_eqb (length (b ∷ l)) 0 (λ e. omega (arith, e))

module _ (l : List ℕ) where
  pub no_opening : contains 40 l ≡ false → false ≡ is_enclosed l
  unfolding is_enclosed
  no_opening e = rw e

  -- x stands before the `(`, r after it
  module _ (opened : contains 40 l ≡ true) (x : List ℕ) (xe : x ≡ part_before 40 l) where
    pub late_opening : eqb (length x) 0 ≡ false → false ≡ is_enclosed l
    unfolding is_enclosed
    late_opening n = rw (opened, sym (none_by x ∙ ap none? xe) ∙ n)

    module _ (empty : eqb (length x) 0 ≡ true) (r : List ℕ) (re : r ≡ part_after 40 l) where
      at_once : none? (part_before 40 l) ≡ true
      at_once = sym (none_by x ∙ ap none? xe) ∙ empty

      pub no-closing : contains 41 r ≡ false → false ≡ is_enclosed l
      unfolding is_enclosed
      no-closing e = rw (opened, at_once, ap (contains 41) (sym re) ∙ e)

      pub last-closing : contains 41 r ≡ true → (y : List ℕ) → y ≡ part_after 41 r → eqb (length y) 0 ≡ is_enclosed l
      unfolding is_enclosed
      last-closing e y ye = rw (opened, at_once, ap (contains 41) (sym re) ∙ e) (none_by y ∙ ap none? (ye ∙ ap (part_after 41) re))
