-- A RUN: feeding in turns until all of the input is taken, then the last line, the input coming in whatever parts.
use Rattle.std.specs.Prelude.{◌≡◌, true, ℕ, List, [], ◌++◌, length, take, drop}
use Rattle.write_bytes.specs.Puts.{Puts}
use Rattle.line_stream.specs.declared.Begun.{Begun}
use Rattle.line_stream.specs.declared.Fed.{Fed}
use Rattle.line_stream.specs.Stream.{last_line, has_room, Feeds}

-- what is written for the input still to come, from a line buffer and a line begun on; each turn may lend another output buffer
pub data Runs (answer : List ℕ → List ℕ) : List ℕ → List ℕ → Begun → List ℕ → Type 0 where
  -- after the last byte
  last : {line out out' : List ℕ} {b : Begun} {n : ℕ}
      → Puts out 0 (last_line answer b.number (take b.len line)) out' n → has_room n (length out') ≡ true
      → Runs answer [] line b (take n out')
  -- some of the input is fed: what was not taken of it comes again, before the rest
  part : (block rest : List ℕ) {line out line' out' w : List ℕ} {b : Begun} {r : Fed}
      → Feeds answer block line out b line' out' r → Runs answer (drop r.taken block ++ rest) line' r.begun w
      → Runs answer (block ++ rest) line b (take r.put out' ++ w)
