-- THE PARTS OF A LINE between delimiters d, any byte.
use Rattle.std.specs.Prelude.{ℕ, zero, suc, Bool, not, List, [], ◌∷◌, length, take, drop, eqb, ltb, if◌then◌else◌}
use Rattle.forms.specs.Bytes.{run}

-- how many bytes stand before the first delimiter; whether there is one; the bytes before it; those after it
unfoldable pub find : ℕ → List ℕ → ℕ
find d l = run (λ b. not (eqb b d)) l

unfoldable pub contains : ℕ → List ℕ → Bool
contains d l = ltb (find d l) (length l)

unfoldable pub part_before : ℕ → List ℕ → List ℕ
part_before d l = take (find d l) l

unfoldable pub part_after : ℕ → List ℕ → List ℕ
part_after d l = drop (suc (find d l)) l

-- the parts between the delimiters, one more than there are of these
abbrev pub onto : ℕ → List (List ℕ) → List (List ℕ)
onto b [] = []
onto b (x ∷ xs) = (b ∷ x) ∷ xs

unfoldable pub parts : ℕ → List ℕ → List (List ℕ)
parts d [] = [] ∷ []
parts d (b ∷ l) = if eqb b d then [] ∷ parts d l else onto b (parts d l)

-- what stands after k delimiters; the part from there on: part 0 is the first
unfoldable pub after_parts : ℕ → ℕ → List ℕ → List ℕ
after_parts d zero l = l
after_parts d (suc k) l = after_parts d k (part_after d l)

abbrev pub part : ℕ → ℕ → List ℕ → List ℕ
part d k l = part_before d (after_parts d k l)
