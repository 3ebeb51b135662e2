-- The slice of an array from a place on, or from the end where the place lies past it, has the elements from the place on.
use mathlib.Core.Path.{◌≡◌, ◌∙◌}
use mathlib.Core.List.{List}
use Prim.Native.Nat.{ℕ, ◌-◌, min}
use lib.ListN.{length, take, drop}
use lib.Seq.{take-length}
use Rattle.std.proofs.lemmas.List.{drop_min, length-drop}

whole : {A : Type 0} (m : ℕ) (xs : List A) → take (length xs - m) (drop m xs) ≡ drop m xs
whole m xs = rw (← length-drop m xs) (take-length (drop m xs))

-- k is the array's length, and m the place where the slice begins
pub rest_from : {A : Type 0} (n m k : ℕ) (xs : List A) → length xs ≡ k → m ≡ min n k → take (k - m) (drop m xs) ≡ drop n xs
rest_from n m k xs long e =
    let rest : take (length xs - m) (drop m xs) ≡ drop n xs = whole m xs ∙ rw (e, ← long) (drop_min n xs) in
    rw (← long) rest
