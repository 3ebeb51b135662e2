-- The line buffer of `feed` and `finish` is one byte longer than a line of a trace may be: so they answer, and count, whole lines.
use mathlib.Core.Path.{◌≡◌, sym, ap, ◌∙◌}
use mathlib.Core.List.{List}
use Prim.Native.Nat.{ℕ, ◌+◌}
use native.Mathlib.Omega.{arith}
use lib.ListN.{length, take}
use Rattle.definitions.specs.Limits.{document_limits}
use Rattle.definitions.specs.Books.{Rule}
use Rattle.write_bytes.specs.Puts.{Puts}
use Rattle.write_bytes.proofs.Putting.{told}
use Rattle.line_stream.specs.declared.Begun.{Begun}
use Rattle.line_stream.specs.declared.Fed.{Fed}
use Rattle.line_stream.specs.Stream.{Feeds}
use Rattle.line_stream.specs.Whole.{WholeLines}
use Rattle.line_stream.proofs.Whole.{feeds_whole}
use Rattle.replay_laws.specs.Traces.{max_trace_line}
use Rattle.replay_laws.specs.Replays.{replay_answer}
use Rattle.replay_totals.specs.declared.Totals.{Totals}
use Rattle.replay_lines.specs.Feeding.{last_output, LastWhole}
use Rattle.replay_lines.proofs.Kept.{kept_answer}
use Rattle.replay_lines.proofs.Running.{last_whole}

module _ (rs : List Rule) where
  pub feed_whole : {input line out line' out' : List ℕ} {b : Begun} {r : Fed} → Feeds (replay_answer document_limits rs) input line out b line' out' r
      → length line ≡ max_trace_line + 1 → WholeLines (replay_answer document_limits rs) input line b line' out' r
  feed_whole f long = feeds_whole (replay_answer document_limits rs) max_trace_line (kept_answer document_limits rs) (omega (arith, long)) f

  pub finish_whole : {line out out' : List ℕ} {r : ℕ} (b : Begun) (t : Totals)
      → Puts out 0 (last_output document_limits rs b.number (take b.len line) t) out' r → length line ≡ max_trace_line + 1
      → LastWhole document_limits rs line out b t out' r
  finish_whole {line = line} b t p long = record {
    whole = λ s h.
        told
        (sym (ap (λ (l : List ℕ). last_output document_limits rs b.number l t) h ∙ last_whole rs b.number (length line) (omega (arith, long)) s t))
        p;
  }
