-- Bytes, letter case, words and runs of bytes.
use Rattle.std.specs.Prelude.{ℕ, suc, ◌+◌, Bool, true, false, ◌&&◌, List, [], ◌∷◌, eqb, leb, if◌then◌else◌}
use Prim.Native.Char.{code}
use Prim.Native.String.{String, [] as []ˢ, ◌∷◌ as ◌∷ˢ◌}

-- a quoted text as the list of its bytes
abbrev pub text : String → List ℕ
text []ˢ = []
text (c ∷ˢ s) = code c ∷ text s

-- from a to b, both included
abbrev pub between : ℕ → ℕ → ℕ → Bool
between a b x = leb a x && leb x b

-- a capital as its small letter, any other byte as it is
unfoldable pub lower : ℕ → ℕ
lower b = if between 65 90 b then b + 32 else b

-- the bytes x are the word w, which is written in small letters; the letter case of x is ignored
unfoldable pub same_word : List ℕ → List ℕ → Bool
same_word [] [] = true
same_word [] (y ∷ w) = false
same_word (b ∷ x) [] = false
same_word (b ∷ x) (y ∷ w) = eqb (lower b) y && same_word x w

-- how many bytes at the front pass the test, up to the first that does not
unfoldable pub run : (ℕ → Bool) → List ℕ → ℕ
run p [] = 0
run p (b ∷ l) = if p b then suc (run p l) else 0
