-- What is noted of lines until they are decided, and their numbers then.
use Rattle.std.specs.Prelude.{ℕ, List, [], ◌∷◌, eqb, get_or, drop, if◌then◌else◌}
use Rattle.replay_laws.specs.Traces.{is_trace_line}
use Rattle.replay_totals.specs.OutcomeNumbers.{bad_number}

-- what is noted of a line before it is decided
abbrev pub line_mark : List ℕ → ℕ
line_mark l = if is_trace_line l then 0 else bad_number

-- the numbers of lines, by what was noted of them and the numbers of those that are good
unfoldable pub numbered : List ℕ → List ℕ → List ℕ
numbered [] ns = []
numbered (m ∷ ms) ns = if eqb m bad_number then m ∷ numbered ms ns else get_or ns 0 0 ∷ numbered ms (drop 1 ns)
