-- The byte counts of byte_test, and the widths of the table that they are. Document 02, T-01.
use Rattle.std.specs.Prelude.{ℕ, Bool, ◌||◌, eqb, if◌then◌else◌}
use Rattle.definitions.specs.declared.table.Width.{Width}
use Rattle.definitions.specs.declared.table.Width.TheVariants.{One, Two, Four}

-- byte count 1, 2 or 4; another is a number beyond its limit
abbrev pub is_byte_count : ℕ → Bool
is_byte_count n = eqb n 1 || (eqb n 2 || eqb n 4)

-- how many bytes a width is
abbrev pub byte_count : Width → ℕ
byte_count One = 1
byte_count Two = 2
byte_count Four = 4

-- the width of a byte count
abbrev pub width_of : ℕ → Width
width_of n = if eqb n 1 then One else if eqb n 2 then Two else Four
