-- THE MERGE, BY WHICH LIST BEGINS WITH THE LOWER NUMBER: its line comes first, and then what is written for the rest.
use mathlib.Core.Path.{◌≡◌, refl}
use mathlib.Core.List.{List, [], ◌∷◌, ◌++◌}
use Prim.Native.Nat.{ℕ, ◌<◌}
use native.Mathlib.Omega.{arith}
use borrow.Author.Tests.{lt-ltb, le-ltb}
use Rattle.compare_laws.specs.Comparisons.{ReadRule, old_line, new_line, both_line, new_lines, merged_by, rules_output}

-- the first of some rules, if there is one, has a larger number
abbrev pub Below : ℕ → List ReadRule → Type 0
Below n [] = Unit {0}
Below n (r ∷ rs) = n < r.number

pub old_first : (a : ReadRule) (xs ys : List ReadRule) → Below a.number ys → rules_output (a ∷ xs) ys ≡ old_line a ++ rules_output xs ys
unfolding rules_output merged_by
old_first a xs [] h = refl
old_first a xs (b ∷ ys) h = rw (lt-ltb a.number b.number h)

pub new_first : (xs : List ReadRule) (b : ReadRule) (ys : List ReadRule) → Below b.number xs → rules_output xs (b ∷ ys) ≡ new_line b ++ rules_output xs ys
unfolding rules_output merged_by new_lines
new_first [] b ys h = refl
new_first (a ∷ xs) b ys h = rw (le-ltb a.number b.number (omega (arith, h)), lt-ltb b.number a.number h)

pub both_first : (a b : ReadRule) (xs ys : List ReadRule) → a.number ≡ b.number → rules_output (a ∷ xs) (b ∷ ys) ≡ both_line a b ++ rules_output xs ys
unfolding rules_output merged_by
both_first a b xs ys e = rw (le-ltb a.number b.number (omega (arith, e)), le-ltb b.number a.number (omega (arith, e)))
