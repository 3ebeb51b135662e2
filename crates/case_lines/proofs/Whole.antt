-- The line buffer of `feed` and `finish` is one byte longer than a case may be: so they answer whole lines, and any run of them writes THE OUTPUT FOR LINES OF
-- CASES, in whatever parts the input comes, as long as 64 bits hold the numbers of the lines.
use mathlib.Core.Path.{◌≡◌}
use mathlib.Core.List.{List}
use Prim.Native.Nat.{ℕ, ◌+◌, ◌<◌, ◌^◌}
use native.Mathlib.Omega.{arith}
use lib.ListN.{length, take}
use Rattle.definitions.specs.Lines.{output_over}
use Rattle.case_lines.specs.CaseLines.{max_line}
use Rattle.case_lines.specs.CaseAnswers.{case_answer}
use Rattle.write_bytes.specs.Puts.{Puts}
use Rattle.line_stream.specs.declared.Begun.{Begun}
use Rattle.line_stream.specs.declared.Fed.{Fed}
use Rattle.line_stream.specs.Stream.{last_line, Feeds}
use Rattle.line_stream.specs.Whole.{WholeLines, WholeLast}
use Rattle.line_stream.specs.Runs.{Runs}
use Rattle.line_stream.proofs.Whole.{feeds_whole, last_whole}
use Rattle.line_stream.proofs.Running.{runs_output}
use Rattle.case_lines.proofs.Kept.{kept_case}

-- ---- whole lines are answered

pub feed_whole : {input line out line' out' : List ℕ} {b : Begun} {r : Fed} → Feeds case_answer input line out b line' out' r
    → length line ≡ max_line + 1 → WholeLines case_answer input line b line' out' r
feed_whole f long = feeds_whole case_answer max_line kept_case (omega (arith, long)) f

pub finish_whole : {line out out' : List ℕ} {r : ℕ} (b : Begun) → Puts out 0 (last_line case_answer b.number (take b.len line)) out' r
    → length line ≡ max_line + 1 → WholeLast case_answer line out b out' r
finish_whole b p long = last_whole case_answer max_line kept_case b (omega (arith, long)) p

-- ---- a run

pub run_writes : {input line w : List ℕ} → length line ≡ max_line + 1 → length input + 1 < 2 ^ 64
    → Runs case_answer input line (record { number = 1; len = 0 }) w → w ≡ output_over case_answer input
run_writes long few u = runs_output case_answer max_line kept_case (omega (arith, long)) few u
