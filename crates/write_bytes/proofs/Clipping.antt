-- A number kept within a list's length takes what the number itself takes.
use mathlib.Core.Path.{◌≡◌, sym, ◌∙◌}
use mathlib.Core.List.{List}
use Prim.Native.Nat.{ℕ, ◌≤◌}
use native.Mathlib.Omega.{arith}
use native.Mathlib.Nat.{le_refl}
use lib.ListN.{length, take, drop, drop_of_length-le}
use lib.Seq.{take_all, take-length}
use lib.Dec.{leb}
use borrow.Author.Tests.{leb-true, leb-false}
use Rattle.forms.proofs.Bools.{by_cases}
use Rattle.write_bytes.specs.Clipped.{at_most}

pub at_most_le : (n most : ℕ) → at_most n most ≤ most
unfolding at_most
at_most_le n most = by_cases (leb n most) (λ t. rw t (leb-true n most t)) (λ f. rw f (le_refl most))

take_most : {A : Type 0} (n : ℕ) (l : List A) → take (at_most n (length l)) l ≡ take n l
unfolding at_most
take_most n l =
    by_cases (leb n (length l))
    (λ t. rw t)
    (λ f. rw f (take-length l ∙ sym (take_all n l (omega (arith, leb-false n (length l) f)))))

pub taken_most : {A : Type 0} (n : ℕ) (l : List A) {most r : ℕ} → length l ≡ most → r ≡ at_most n most → take n l ≡ take r l
taken_most n l e d = rw (d, sym e) (sym (take_most n l))

-- what is left out is the same
pub drop_most : {A : Type 0} (n : ℕ) (l : List A) → drop (at_most n (length l)) l ≡ drop n l
unfolding at_most
drop_most n l =
    by_cases (leb n (length l))
    (λ t. rw t)
    (λ f.
    let past : length l ≤ n = omega (arith, leb-false n (length l) f) in
    rw f (drop_of_length-le l (le_refl (length l)) ∙ sym (drop_of_length-le l past)))
