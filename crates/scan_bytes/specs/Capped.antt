-- Above every limit all numbers read as one.
use Rattle.std.specs.Prelude.{ℕ, ltb, if◌then◌else◌}

abbrev pub number_cap : ℕ
number_cap = 4294967296

abbrev pub capped : ℕ → ℕ
capped v = if ltb v number_cap then v else number_cap
