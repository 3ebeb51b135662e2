-- What is kept of lines until they are decided, and what is decided then.
use Rattle.std.specs.Prelude.{ℕ, suc, ◌≤◌, ◌<◌, ◌≡◌, List, map, length, take, set}
use Rattle.definitions.specs.Limits.{Limits}
use Rattle.definitions.specs.Books.{Rule}
use Rattle.write_bytes.specs.Puts.{Puts}
use Rattle.replay_totals.specs.OutcomeNumbers.{line_number}
use Rattle.replay_records.specs.RecordBytes.{line_bytes, lines_bytes}
use Rattle.replay_batches.specs.declared.Gathered.{Gathered}
use Rattle.replay_batches.specs.Numbers.{line_mark}

-- one line more: its record, and what is noted of it
pub record Adds (block block' marks marks' : List ℕ) (g : Gathered) (l : List ℕ) (r : Gathered) : Type 0 where
  pub put : Puts block g.bytes (line_bytes l) block' r.bytes
  pub noted : marks' ≡ set marks g.lines (line_mark l)
  pub more : r.lines ≡ suc g.lines

-- of some lines the first ones: their records stand at the front of the block, and what is noted of them at the front of the marks
pub record Gathers (ls : List (List ℕ)) (block marks : List ℕ) (g : Gathered) : Type 0 where
  pub some : 0 < g.lines
  pub few : g.lines ≤ length ls
  pub room : g.lines ≤ length marks
  pub within : g.bytes ≤ length block
  pub records : take g.bytes block ≡ lines_bytes (take g.lines ls)
  pub noted : take g.lines marks ≡ map line_mark (take g.lines ls)

-- the numbers of the first n of some lines, at least one
pub record Decides (lim : Limits) (rs : List Rule) (ls : List (List ℕ)) (answers : List ℕ) (n : ℕ) : Type 0 where
  pub some : 0 < n
  pub few : n ≤ length ls
  pub room : n ≤ length answers
  pub numbers : take n answers ≡ map (line_number lim rs) (take n ls)
