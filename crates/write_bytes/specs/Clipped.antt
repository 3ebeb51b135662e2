-- A number kept within a limit.
use Rattle.std.specs.Prelude.{ℕ, leb, if◌then◌else◌}

-- n, or the most if n is beyond it
unfoldable pub at_most : ℕ → ℕ → ℕ
at_most n most = if leb n most then n else most
