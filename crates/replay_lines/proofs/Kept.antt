-- Beyond the limit of a line, any more of its bytes change nothing that is said of it: it is bad.
use mathlib.Core.Path.{◌≡◌, ap}
use mathlib.Core.List.{List}
use Prim.Native.Nat.{ℕ, ◌<◌}
use lib.ListN.{length, take}
use Rattle.definitions.specs.Limits.{Limits}
use Rattle.definitions.specs.Books.{Rule}
use Rattle.line_stream.proofs.Keeping.{kept_beyond}
use Rattle.replay_laws.specs.Traces.{max_trace_line}
use Rattle.replay_laws.specs.Replays.{bad, outcome_text, outcome, replay_answer}
use Rattle.replay_records.proofs.Lines.{long_line}

module _ (lim : Limits) (rs : List Rule) where
  long_bad : (s : List ℕ) → max_trace_line < length s → outcome lim rs s ≡ bad
  unfolding outcome
  long_bad s h = rw (long_line s h)

  pub kept_outcome : (m : ℕ) (s : List ℕ) → max_trace_line < m → outcome lim rs (take m s) ≡ outcome lim rs s
  kept_outcome = kept_beyond (outcome lim rs) max_trace_line bad long_bad

  pub kept_answer : (m : ℕ) (s : List ℕ) → max_trace_line < m → replay_answer lim rs (take m s) ≡ replay_answer lim rs s
  unfolding replay_answer
  kept_answer m s h = ap outcome_text (kept_outcome m s h)
