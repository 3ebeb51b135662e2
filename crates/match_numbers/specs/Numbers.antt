-- How many numbers an answer is compared by. Section "Meaning", its last paragraph.
use Rattle.std.specs.Prelude.{ℕ, ◌+◌}
use Rattle.definitions.specs.Limits.{max_patterns}

-- refusal number, found or none, count, and all starts
abbrev pub numbers_of_one : ℕ
numbers_of_one = 3 + max_patterns
