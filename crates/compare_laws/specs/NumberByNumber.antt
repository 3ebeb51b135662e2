-- THE SAME WITHOUT A MERGE: a line for each number in turn, by the rules that have it. Document 02, T-10: "in rising order of number". proofs/EveryNumber.antt
-- has the statement that this is what is written.
use Rattle.std.specs.Prelude.{ℕ, zero, suc, List, [], ◌∷◌, ◌++◌, eqb}
use Rattle.definitions.specs.Limits.{max_word}
use Rattle.definitions.specs.Lists.{keep}
use Rattle.compare_laws.specs.Comparisons.{ReadRule, old_line, new_line, both_line}

unfoldable pub with_number : ℕ → List ReadRule → List ReadRule
with_number n rs = keep (λ (r : ReadRule). eqb r.number n) rs

-- by the rules of one number in the first book and in the second: at most one in each, since numbers rise strictly
abbrev pub line_for : List ReadRule → List ReadRule → List ℕ
line_for [] [] = []
line_for (a ∷ xs) [] = old_line a
line_for [] (b ∷ ys) = new_line b
line_for (a ∷ xs) (b ∷ ys) = both_line a b

-- for the n numbers after k
unfoldable pub lines_after : ℕ → ℕ → List ReadRule → List ReadRule → List ℕ
lines_after k zero xs ys = []
lines_after k (suc n) xs ys = line_for (with_number (suc k) xs) (with_number (suc k) ys) ++ lines_after (suc k) n xs ys

-- for 1 to 65535
unfoldable pub every_number : List ReadRule → List ReadRule → List ℕ
every_number xs ys = lines_after 0 max_word xs ys
