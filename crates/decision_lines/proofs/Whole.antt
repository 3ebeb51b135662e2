-- The line buffer of `feed` and `finish` is one byte longer than a line of decisions may be: so they answer whole lines, and any run of them writes THE OUTPUT
-- FOR LINES OF DECISIONS, in whatever parts the input comes, as long as 64 bits hold the numbers of the lines.
use mathlib.Core.Path.{◌≡◌}
use mathlib.Core.List.{List}
use Prim.Native.Nat.{ℕ, ◌+◌, ◌<◌, ◌^◌}
use native.Mathlib.Omega.{arith}
use lib.ListN.{length, take}
use Rattle.definitions.specs.Lines.{output_over}
use Rattle.decision_lines.specs.DecisionLines.{max_line, decision_answer}
use Rattle.write_bytes.specs.Puts.{Puts}
use Rattle.line_stream.specs.declared.Begun.{Begun}
use Rattle.line_stream.specs.declared.Fed.{Fed}
use Rattle.line_stream.specs.Stream.{last_line, Feeds}
use Rattle.line_stream.specs.Whole.{WholeLines, WholeLast}
use Rattle.line_stream.specs.Runs.{Runs}
use Rattle.line_stream.proofs.Whole.{feeds_whole, last_whole}
use Rattle.line_stream.proofs.Running.{runs_output}
use Rattle.decision_lines.proofs.Kept.{kept_decision}

-- ---- whole lines are answered

pub feed_whole : {input line out line' out' : List ℕ} {b : Begun} {r : Fed} → Feeds decision_answer input line out b line' out' r
    → length line ≡ max_line + 1 → WholeLines decision_answer input line b line' out' r
feed_whole f long = feeds_whole decision_answer max_line kept_decision (omega (arith, long)) f

pub finish_whole : {line out out' : List ℕ} {r : ℕ} (b : Begun) → Puts out 0 (last_line decision_answer b.number (take b.len line)) out' r
    → length line ≡ max_line + 1 → WholeLast decision_answer line out b out' r
finish_whole b p long = last_whole decision_answer max_line kept_decision b (omega (arith, long)) p

-- ---- a run

pub run_writes : {input line w : List ℕ} → length line ≡ max_line + 1 → length input + 1 < 2 ^ 64
    → Runs decision_answer input line (record { number = 1; len = 0 }) w → w ≡ output_over decision_answer input
run_writes long few u = runs_output decision_answer max_line kept_decision (omega (arith, long)) few u
