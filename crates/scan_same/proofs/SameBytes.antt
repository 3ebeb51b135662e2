-- What `==` of two slices of bytes answers, by the elements in pairs, is whether the lists are the same.
use mathlib.Core.Path.{◌≡◌, refl, ap}
use mathlib.Core.Bool.{Bool, ◌&&◌}
use mathlib.Core.List.{List, [], ◌∷◌}
use Prim.Native.Nat.{ℕ}
use lib.Dec.{eqb}
use lib.Pointwise.{pointwise}
use Rattle.definitions.specs.Lists.{same_bytes}

pub paired : (s w : List ℕ) → pointwise eqb s w ≡ same_bytes s w
unfolding same_bytes
paired [] [] = refl
paired [] (y ∷ w) = refl
paired (x ∷ s) [] = refl
paired (x ∷ s) (y ∷ w) = ap (λ (b : Bool). eqb x y && b) (paired s w)
