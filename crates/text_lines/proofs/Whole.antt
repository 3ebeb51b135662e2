-- The line buffer of `feed` and `finish` is one byte longer than a text may be: so they answer whole lines, and any run of them writes THE LINE PROGRAM'S
-- OUTPUT, section "The line program", in whatever parts the input comes, as long as 64 bits hold the numbers of the lines.
use mathlib.Core.Path.{◌≡◌}
use mathlib.Core.List.{List}
use Prim.Native.Nat.{ℕ, ◌+◌, ◌<◌, ◌^◌}
use native.Mathlib.Omega.{arith}
use lib.ListN.{length, take}
use Rattle.definitions.specs.Limits.{document_limits}
use Rattle.definitions.specs.Lines.{line_of, program_output}
use Rattle.write_bytes.specs.Puts.{Puts}
use Rattle.line_stream.specs.declared.Begun.{Begun}
use Rattle.line_stream.specs.declared.Fed.{Fed}
use Rattle.line_stream.specs.Stream.{last_line, Feeds}
use Rattle.line_stream.specs.Whole.{WholeLines, WholeLast}
use Rattle.line_stream.specs.Runs.{Runs}
use Rattle.line_stream.proofs.Whole.{feeds_whole, last_whole}
use Rattle.line_stream.proofs.Running.{runs_output}
use Rattle.text_lines.proofs.Kept.{kept_line}

-- ---- whole lines are answered

pub feed_whole : {input line out line' out' : List ℕ} {b : Begun} {r : Fed} → Feeds (line_of document_limits) input line out b line' out' r
    → length line ≡ document_limits.text + 1 → WholeLines (line_of document_limits) input line b line' out' r
feed_whole f long = feeds_whole (line_of document_limits) document_limits.text kept_line (omega (arith, long)) f

pub finish_whole : {line out out' : List ℕ} {r : ℕ} (b : Begun) → Puts out 0 (last_line (line_of document_limits) b.number (take b.len line)) out' r
    → length line ≡ document_limits.text + 1 → WholeLast (line_of document_limits) line out b out' r
finish_whole b p long = last_whole (line_of document_limits) document_limits.text kept_line b (omega (arith, long)) p

-- ---- a run

pub run_writes : {input line w : List ℕ} → length line ≡ document_limits.text + 1 → length input + 1 < 2 ^ 64
    → Runs (line_of document_limits) input line (record { number = 1; len = 0 }) w → w ≡ program_output document_limits input
unfolding program_output
run_writes long few u = runs_output (line_of document_limits) document_limits.text kept_line (omega (arith, long)) few u
