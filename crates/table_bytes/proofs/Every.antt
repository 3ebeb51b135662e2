-- The library's test of every element is the definitions' own.
use mathlib.Core.Path.{◌≡◌, refl, ap}
use mathlib.Core.Bool.{Bool, ◌&&◌}
use mathlib.Core.List.{List, [], ◌∷◌}
use Rattle.std.specs.List.{list_all}
use Rattle.definitions.specs.Lists.{all?}

pub every_is : {A : Type 0} (f : A → Bool) (xs : List A) → list_all f xs ≡ all? f xs
unfolding all?
every_is f [] = refl
every_is f (x ∷ xs) = ap (λ (b : Bool). f x && b) (every_is f xs)
