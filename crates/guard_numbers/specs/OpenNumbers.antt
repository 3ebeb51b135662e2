-- Numbers of packets that are not decided yet.
use Rattle.std.specs.Prelude.{ℕ, Bool, eqb, if◌then◌else◌}

-- the number of a packet that is not decided: more than any answer's
abbrev pub open_number : ℕ
open_number = 131072

unfoldable pub is_open : ℕ → Bool
is_open x = eqb x open_number

-- what it is in the end
unfoldable pub closed : ℕ → ℕ
closed x = if is_open x then 0 else x
