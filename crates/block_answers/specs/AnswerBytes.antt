-- THE ANSWERS OF A BLOCK AS BYTES, three for each packet: 1 for pass, and the deciding rule's number, big end first. The numbers are those of a block's answers.
use Rattle.std.specs.Prelude.{ℕ, ◌/◌, ◌%◌, List, [], ◌∷◌}

unfoldable pub answer_bytes : List ℕ → List ℕ
answer_bytes [] = []
answer_bytes (n ∷ ns) = n / 65536 % 256 ∷ n / 256 % 256 ∷ n % 256 ∷ answer_bytes ns
