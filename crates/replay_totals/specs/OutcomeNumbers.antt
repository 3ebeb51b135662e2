-- WHAT IS SAID OF A LINE AS A NUMBER: a decision's, as a block has it (Blocks.antt of the definitions), or one more than any of these for a bad line.
use Rattle.std.specs.Prelude.{ℕ, ◌-◌, List, eqb, leb, if◌then◌else◌}
use Rattle.definitions.specs.Limits.{Limits}
use Rattle.definitions.specs.Books.{Rule}
use Rattle.definitions.specs.Blocks.{record_number}
use Rattle.replay_laws.specs.Traces.{is_trace_line, trace_record}
use Rattle.replay_laws.specs.Replays.{Outcome, pass, hold, bad}

abbrev pub bad_number : ℕ
bad_number = 131072

unfoldable pub line_number : Limits → List Rule → List ℕ → ℕ
line_number lim rs l = if is_trace_line l then record_number lim rs (trace_record l) else bad_number

-- what such a number says
unfoldable pub outcome_of : ℕ → Outcome
outcome_of n = if eqb n bad_number then bad else if leb 65536 n then pass (n - 65536) else hold n
