-- THE LINES OF SOME INPUT that end in it, and the one that is begun there, where s was read before of the first.
use Rattle.std.specs.Prelude.{ℕ, List, [], ◌∷◌, ◌++◌, eqb, if◌then◌else◌}

-- those that an LF ends, without it
unfoldable pub ended_lines : List ℕ → List ℕ → List (List ℕ)
ended_lines s [] = []
ended_lines s (b ∷ l) = if eqb b 10 then s ∷ ended_lines [] l else ended_lines (s ++ (b ∷ [])) l

-- what stands after the last LF
unfoldable pub line_left : List ℕ → List ℕ → List ℕ
line_left s [] = s
line_left s (b ∷ l) = if eqb b 10 then line_left [] l else line_left (s ++ (b ∷ [])) l

-- at the end of the input that is a line too, if it has a byte
abbrev pub last_lines : List ℕ → List (List ℕ)
last_lines [] = []
last_lines (b ∷ s) = (b ∷ s) ∷ []
