-- The starts of a field at which bytes stand, as a walk from one start on finds them.
use Rattle.std.specs.Prelude.{Bool, List, ℕ, zero, suc, ◌+◌, ◌≤◌, ◌<◌, length, drop, if◌then◌else◌}
use Rattle.definitions.specs.Windows.{stands_at}

-- the bytes b stand in the field f at a start
abbrev pub standing : Bool → List ℕ → List ℕ → ℕ → Bool
standing nocase b f at = stands_at nocase b (drop at f)

-- the bytes b fit the field f at each start before `to`
abbrev pub Fits : List ℕ → List ℕ → ℕ → Type 0
Fits b f to = (at : ℕ) → at < to → at + length b ≤ length f

-- the first of n starts from `at` on that passes the test; the one after them if none does
unfoldable pub first_start : (ℕ → Bool) → ℕ → ℕ → ℕ
first_start f at zero = at
first_start f at (suc n) = if f at then at else first_start f (suc at) n
