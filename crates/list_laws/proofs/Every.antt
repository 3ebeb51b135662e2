-- A test of every element: where the elements' type grants it, and what it says of the one at a place.
use mathlib.Core.Path.{◌≡◌, refl}
use mathlib.Core.Bool.{Bool, true}
use mathlib.Core.List.{List, [], ◌∷◌}
use Prim.Native.Nat.{ℕ, zero, suc, ◌<◌}
use native.Mathlib.Omega.{arith}
use lib.ListN.{length, get_or, take}
pub use Rattle.std.proofs.lemmas.List.{drop_more as drop_here}
use Rattle.forms.proofs.Bools.{both_left, both_right}
use Rattle.definitions.specs.Lists.{all?}

-- what holds of every element, by its type, holds of the first n
pub first_fit : {A : Type 0} (f : A → Bool) (d : A) (n : ℕ) (l : List A) → ((i : ℕ) → f (get_or l i d) ≡ true) → all? f (take n l) ≡ true
unfolding all?
first_fit f d zero l h = refl
first_fit f d (suc n) [] h = refl
first_fit f d (suc n) (x ∷ l) h = rw (h 0) (first_fit f d n l (λ i. h (suc i)))

-- what a test of every element says of the one at a place
pub all_at : {A : Type 0} (f : A → Bool) (d : A) (l : List A) (i : ℕ) → all? f l ≡ true → i < length l → f (get_or l i d) ≡ true
unfolding all?
all_at f d [] i e h = absurd (omega (arith, h))
all_at f d (x ∷ l) zero e h = both_left (f x) (all? f l) e
all_at f d (x ∷ l) (suc i) e h = all_at f d l i (both_right (f x) (all? f l) e) (omega (arith, h))
