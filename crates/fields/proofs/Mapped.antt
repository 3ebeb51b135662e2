-- A test of any of the fields of a map, as the library goes through them.
use mathlib.Core.Path.{◌≡◌, refl, ap}
use mathlib.Core.Bool.{Bool, ◌||◌}
use mathlib.Core.List.{List, [], ◌∷◌}
use Rattle.std.specs.List.{list_any}
use Rattle.definitions.specs.Lists.{any?}

pub any_any : {A : Type 0} (f : A → Bool) (l : List A) → list_any f l ≡ any? f l
unfolding any?
any_any f [] = refl
any_any f (x ∷ l) = ap (λ (t : Bool). f x || t) (any_any f l)
