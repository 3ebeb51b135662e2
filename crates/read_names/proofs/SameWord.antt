-- Comparing bytes with a word, letter case ignored: the library folds both, and a word without capitals is its own folding.
use Rattle.std.specs.Char.{to_ascii_lowercase}
use mathlib.Core.Path.{◌≡◌, refl, sym, ◌∙◌}
use mathlib.Core.Bool.{true, not}
use mathlib.Core.List.{List, [], ◌∷◌, map, head-eq_of_cons-eq, tail-eq_of_cons-eq}
use Prim.Native.Nat.{ℕ}
use native.Mathlib.Omega.{arith}
use lib.Dec.{eqb, leb}
use borrow.Author.Tests.{eq-eqb, eqb-true, not-true, leb-true, leb-false, lt-ltb, le-ltb}
use Rattle.forms.specs.Bytes.{between, lower, same_word}
use Rattle.forms.proofs.Bools.{by_cases, both_left, both_right}
use Rattle.definitions.specs.Lists.{all?}
use Rattle.read_names.specs.Names.{no_capitals}

abbrev folded : List ℕ → List ℕ
folded x = map to_ascii_lowercase x

folds : (b : ℕ) → to_ascii_lowercase b ≡ lower b
unfolding lower
folds b =
    by_cases (leb 65 b)
    (λ t.
    let low = leb-true 65 b t in
    by_cases (leb b 90)
    (λ u. rw (t, u, le-ltb b 65 low, lt-ltb b 91 (let high = leb-true b 90 u in omega arith)))
    (λ u. rw (t, u, le-ltb b 65 low, le-ltb b 91 (let high = leb-false b 90 u in omega arith))))
    (λ t. rw (t, lt-ltb b 65 (leb-false 65 b t)))

small : (y : ℕ) → not (between 65 90 y) ≡ true → to_ascii_lowercase y ≡ y
unfolding lower
small y n = folds y ∙ rw (not-true (between 65 90 y) n)

module _ (y : ℕ) (w : List ℕ) (n : no_capitals (y ∷ w) ≡ true) where
  first_small : to_ascii_lowercase y ≡ y
  unfolding all?
  first_small = small y (both_left (not (between 65 90 y)) (no_capitals w) n)

  rest_small : no_capitals w ≡ true
  unfolding all?
  rest_small = both_right (not (between 65 90 y)) (no_capitals w) n

-- bytes are the word exactly if both fold to the same
pub same_if : (x w : List ℕ) → no_capitals w ≡ true → folded x ≡ folded w → same_word x w ≡ true
unfolding same_word
same_if [] [] n e = refl
same_if [] (y ∷ w) n e = cc
same_if (b ∷ x) [] n e = cc
same_if (b ∷ x) (y ∷ w) n e =
    let head : lower b ≡ y = sym (folds b) ∙ head-eq_of_cons-eq e ∙ first_small y w n in
    rw (eq-eqb (lower b) y head) (same_if x w (rest_small y w n) (tail-eq_of_cons-eq e))

pub same_only : (x w : List ℕ) → no_capitals w ≡ true → same_word x w ≡ true → folded x ≡ folded w
unfolding same_word
same_only [] [] n e = refl
same_only [] (y ∷ w) n e = cc
same_only (b ∷ x) [] n e = cc
same_only (b ∷ x) (y ∷ w) n e =
    let head : to_ascii_lowercase b ≡ to_ascii_lowercase y = folds b ∙ eqb-true (lower b) y (both_left (eqb (lower b) y) (same_word x w) e) ∙ sym (first_small y w n) in
    let tail : folded x ≡ folded w = same_only x w (rest_small y w n) (both_right (eqb (lower b) y) (same_word x w) e) in
    cc
