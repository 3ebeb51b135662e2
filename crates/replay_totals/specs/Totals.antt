-- The totals as numbers of 64 bits, of which the largest stays.
use Rattle.std.specs.Prelude.{ℕ, List, [], ◌∷◌}
use Rattle.line_stream.specs.Stream.{next_number}
use Rattle.replay_laws.specs.Replays.{Outcome, pass, hold, bad, total_line}
use Rattle.replay_totals.specs.declared.Totals.{Totals}

abbrev pub no_totals : Totals
no_totals = record { passes = 0; holds = 0; bad = 0 }

-- with a line more
abbrev pub counted : Totals → Outcome → Totals
counted t (pass n) = record { passes = next_number t.passes; holds = t.holds; bad = t.bad }
counted t (hold n) = record { passes = t.passes; holds = next_number t.holds; bad = t.bad }
counted t bad = record { passes = t.passes; holds = t.holds; bad = next_number t.bad }

-- with some lines more
unfoldable pub counted_all : Totals → List Outcome → Totals
counted_all t [] = t
counted_all t (o ∷ os) = counted_all (counted t o) os

abbrev pub total_text : Totals → List ℕ
total_text t = total_line t.passes t.holds t.bad
