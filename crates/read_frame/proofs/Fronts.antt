-- Whether a list begins with a word: the library's comparison of its front is the definition's.
use Rattle.std.specs.Cmp.Lexicographic.{pointwise}
use mathlib.Core.Path.{◌≡◌, refl, sym, ap, ◌∙◌}
use mathlib.Core.Bool.{true}
use mathlib.Core.List.{List, [], ◌∷◌}
use Prim.Native.Nat.{ℕ, suc}
use lib.ListN.{length}
use lib.Dec.{eqb}
use borrow.Author.Tests.{eq-eqb, ne_eqb, eqb-true, eqb-false}
use Rattle.forms.proofs.Bools.{by_cases, both_right}
use Rattle.definitions.specs.Lists.{same_bytes}

turned : (a b : ℕ) → eqb a b ≡ eqb b a
turned a b =
    by_cases (eqb a b)
    (λ t. t ∙ sym (eq-eqb b a (sym (eqb-true a b t))))
    (λ f. f ∙ sym (ne_eqb b a (λ e. eqb-false a b f (sym e))))

pub same_front : (w x : List ℕ) → pointwise eqb w x ≡ same_bytes x w
unfolding same_bytes
same_front [] [] = refl
same_front [] (b ∷ x) = refl
same_front (y ∷ w) [] = refl
same_front (y ∷ w) (b ∷ x) = rw (turned y b, same_front w x)

-- lists that are the same have one length
pub same_length : (x w : List ℕ) → same_bytes x w ≡ true → length x ≡ length w
unfolding same_bytes
same_length [] [] e = refl
same_length [] (y ∷ w) e = cc
same_length (b ∷ x) [] e = cc
same_length (b ∷ x) (y ∷ w) e = ap suc (same_length x w (both_right (eqb b y) (same_bytes x w) e))
