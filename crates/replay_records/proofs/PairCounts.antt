-- Pairs of hex digits write half as many bytes as there are digits, rounded down: so the two columns of bytes of a line write at most half of the line's.
use mathlib.Core.Path.{◌≡◌, refl}
use mathlib.Core.List.{List, [], ◌∷◌}
use Prim.Native.Nat.{ℕ, suc, ◌+◌, ◌*◌, ◌/◌, ◌≤◌}
use native.Mathlib.Omega.{arith}
use lib.ListN.{length, length-drop}
use Rattle.definitions.specs.Cases.{pairs}
use Rattle.definitions.specs.Parts.{find, part_before, part_after, after_parts, part}
use Rattle.line_parts.proofs.Delimiters.{find_le, before_length, after_le}

pub pairs_half : (l : List ℕ) → length (pairs l) ≡ length l / 2
unfolding pairs
pairs_half [] = refl
pairs_half (a ∷ []) = refl
pairs_half (a ∷ (b ∷ l)) = omega (arith, pairs_half l)

-- what stands before a delimiter and what stands after it
parted_le : (d : ℕ) (l : List ℕ) → length (part_before d l) + length (part_after d l) ≤ length l
unfolding part_after
parted_le d l = omega (arith, find_le d l, before_length d l, length-drop (suc (find d l)) l)

-- the second column and all after the third tab
columns_le : (l : List ℕ) → length (part 9 1 l) + length (after_parts 9 3 l) ≤ length l
unfolding after_parts
columns_le l =
    let rest = part_after 9 l in
    omega (arith, after_le 9 l, parted_le 9 rest, after_le 9 (part_after 9 rest))

pub columns_pairs : (l : List ℕ) → (length (pairs (part 9 1 l)) + length (pairs (after_parts 9 3 l))) * 2 ≤ length l
columns_pairs l = omega (arith, columns_le l, pairs_half (part 9 1 l), pairs_half (after_parts 9 3 l))
