-- A decimal number up to a limit, or none.
use Rattle.std.specs.Prelude.{ℕ, List, if◌then◌else◌, Option, Some, None}
use Rattle.definitions.specs.Numbers.{value_of, is_number}

-- the code's answer
unfoldable pub parsed_number : ℕ → List ℕ → Option ℕ
parsed_number limit l = if is_number limit l then Some (value_of 10 0 l) else None
