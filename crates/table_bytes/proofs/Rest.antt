-- The slice from a place on, or from the end where the place lies past it, has the elements from the place on.
use mathlib.Core.Path.{◌≡◌, ◌∙◌}
use mathlib.Core.List.{List}
use Prim.Native.Nat.{ℕ, ◌-◌, min}
use lib.ListN.{length, take, drop}
use lib.Seq.{take-length}
use Rattle.std.proofs.lemmas.List.{drop_min, length-drop}

whole : {A : Type 0} (m : ℕ) (xs : List A) → take (length xs - m) (drop m xs) ≡ drop m xs
whole m xs = rw (← length-drop m xs) (take-length (drop m xs))

pub rest_from : {A : Type 0} (n m : ℕ) (xs : List A) → m ≡ min n (length xs) → take (length xs - m) (drop m xs) ≡ drop n xs
rest_from n m xs e = whole m xs ∙ rw e (drop_min n xs)
