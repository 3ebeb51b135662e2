-- A RUN OF A REPLAY: a book is opened; if it is accepted, the trace is fed in turns, in whatever parts it comes, and then come the last line and the totals.
use Rattle.std.specs.Prelude.{◌≡◌, true, false, ℕ, ◌+◌, List, [], ◌++◌, length, take, drop}
use Rattle.definitions.specs.Limits.{document_limits}
use Rattle.definitions.specs.Books.{Rule, judge}
use Rattle.definitions.specs.LoadedBooks.{rules_in, loaded}
use Rattle.write_bytes.specs.Puts.{Puts}
use Rattle.line_stream.specs.declared.Begun.{Begun}
use Rattle.line_stream.specs.Stream.{has_room, Feeds}
use Rattle.replay_laws.specs.Traces.{max_trace_line}
use Rattle.replay_laws.specs.Replays.{replay_answer}
use Rattle.replay_lines.specs.declared.Replayed.{Replayed}
use Rattle.replay_totals.specs.declared.Totals.{Totals}
use Rattle.replay_totals.specs.Totals.{no_totals}
use Rattle.replay_lines.specs.Feeding.{is_accepted, opened_text, Counts, last_output}

-- what is written for the trace still to come, from a line buffer, a line begun and totals on; each turn may lend another output buffer
pub data Replays (rs : List Rule) : List ℕ → List ℕ → Begun → Totals → List ℕ → Type 0 where
  -- after the last byte
  last : {line out out' : List ℕ} {b : Begun} {t : Totals} {n : ℕ}
      → Puts out 0 (last_output document_limits rs b.number (take b.len line) t) out' n → has_room n (length out') ≡ true
      → Replays rs [] line b t (take n out')
  -- some of the trace is fed: what was not taken of it comes again, before the rest
  part : (block rest : List ℕ) {line out line' out' w : List ℕ} {b : Begun} {t : Totals} {r : Replayed}
      → Feeds (replay_answer document_limits rs) block line out b line' out' r.fed → Counts document_limits rs block line b t r.fed.taken r.totals
      → Replays rs (drop r.fed.taken block ++ rest) line' r.fed.begun r.totals w
      → Replays rs (block ++ rest) line b t (take r.fed.put out' ++ w)

-- what is written for a book and a trace
pub data Run (book input : List ℕ) : List ℕ → Type 0 where
  refused : {out out' : List ℕ} {n : ℕ} → is_accepted (judge document_limits book) ≡ false → Puts out 0 (opened_text (judge document_limits book)) out' n
      → has_room n (length out') ≡ true → Run book input (take n out')
  accepted : {line w : List ℕ} → is_accepted (judge document_limits book) ≡ true → length line ≡ max_trace_line + 1
      → Replays (rules_in book (loaded document_limits book).rules) input line (record { number = 1; len = 0 }) no_totals w → Run book input w
