-- The first n elements of a list, as a loop goes through them: the one at a place with those after it, and nothing after the last.
use mathlib.Core.Path.{◌≡◌}
use mathlib.Core.List.{List, [], ◌∷◌}
use Prim.Native.Nat.{ℕ, ◌+◌, ◌≤◌, ◌<◌}
use native.Mathlib.Omega.{arith}
use native.Mathlib.Numerals.{add-one}
use lib.ListN.{length, get_or, take, drop, length-take, drop_of_length-le}
use lib.Seq.{drop-cons, get_or-take, length-take-le}

module _ {A : Type 0} (l : List A) (n i : ℕ) where
  pub first_here : (d : A) → i < n → n ≤ length l → drop i (take n l) ≡ get_or l i d ∷ drop (i + 1) (take n l)
  first_here d h g =
      let m : i < length (take n l) = omega (arith, length-take-le n l g) in
      rw (add-one, drop-cons (take n l) i d m, get_or-take n l i d h)

  pub first_out : n ≤ i → drop i (take n l) ≡ []
  first_out h = drop_of_length-le (take n l) {i = i} (omega (arith, length-take n l))
