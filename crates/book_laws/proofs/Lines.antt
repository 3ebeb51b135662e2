-- The lines of a book: the first of what is left ends with the first LF (`lines_first`), and the lines one after the other are the book (`lines_joined`).
use mathlib.Core.Path.{◌≡◌, refl, ap, ◌∙◌}
use mathlib.Core.Bool.{Bool, true, false, not}
use mathlib.Core.List.{List, [], ◌∷◌, ◌++◌}
use Prim.Native.Nat.{ℕ, suc}
use lib.ListN.{take, drop}
use lib.Dec.{eqb}
use Rattle.forms.specs.Bytes.{run}
use Rattle.forms.proofs.Bools.{by_cases}
use Rattle.definitions.specs.Parts.{find}
use Rattle.definitions.specs.Books.{into_lines, book_lines}

-- the lines one after the other
unfoldable pub joined : List (List ℕ) → List ℕ
joined [] = []
joined (l ∷ ls) = l ++ joined ls

into_joined : (e : Bool) (b : ℕ) (ls : List (List ℕ)) → joined (into_lines e b ls) ≡ b ∷ joined ls
unfolding joined
into_joined true b ls = refl
into_joined false b [] = refl
into_joined false b (l ∷ ls) = refl

pub lines_joined : (s : List ℕ) → joined (book_lines s) ≡ s
unfolding joined book_lines
lines_joined [] = refl
lines_joined (b ∷ s) = into_joined (eqb b 10) b (book_lines s) ∙ ap (λ (l : List ℕ). b ∷ l) (lines_joined s)

-- the first line of some bytes, with its LF, and the lines after it
abbrev cut_at : ℕ → List ℕ → List (List ℕ)
cut_at n s = take n s ∷ book_lines (drop n s)

-- a byte before lines that are cut already
into_cut : (b c n : ℕ) (s : List ℕ) → book_lines (c ∷ s) ≡ cut_at n (c ∷ s) → into_lines false b (book_lines (c ∷ s)) ≡ cut_at (suc n) (b ∷ (c ∷ s))
into_cut b c n s e = rw e

first_cut : (b : ℕ) (s : List ℕ) → book_lines (b ∷ s) ≡ cut_at (suc (run (λ x. not (eqb x 10)) (b ∷ s))) (b ∷ s)
unfolding book_lines run
first_cut b [] = by_cases (eqb b 10) (λ t. rw t) (λ f. rw f)
first_cut b (c ∷ s) = by_cases (eqb b 10) (λ t. rw t) (λ f. rw f (into_cut b c (suc (run (λ x. not (eqb x 10)) (c ∷ s))) s (first_cut c s)))

pub lines_first : (b : ℕ) (s : List ℕ) → book_lines (b ∷ s) ≡ take (suc (find 10 (b ∷ s))) (b ∷ s) ∷ book_lines (drop (suc (find 10 (b ∷ s))) (b ∷ s))
unfolding find
lines_first b s = first_cut b s
