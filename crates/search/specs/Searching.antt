-- What the search over a table's items rests on. Document 01, section "Meaning".
use Rattle.std.specs.Prelude.{ℕ, ◌≤◌, ◌<◌, List, [], length, take}
use Rattle.definitions.specs.declared.table.Flow.{Flow}
use Rattle.definitions.specs.declared.table.Slot.{Slot}
use Rattle.definitions.specs.declared.table.Table.{Table}
use Rattle.definitions.specs.Limits.{max_patterns, max_items}
use Rattle.definitions.specs.Tables.{table_with}
use Rattle.definitions.specs.Items.{patterns_of}
use Rattle.definitions.specs.WellFormed.{bytes_of}
use Rattle.match_windows.specs.Spans.{size_bound}

-- the table of what a search looks at: its name, and how many of its bytes are in use, play no part
abbrev pub searched_table : ℕ → Flow → List Slot → ℕ → List ℕ → Table
searched_table protocol flow items count bytes = table_with [] 0 protocol flow bytes 0 items count

-- of items, so many of them in use, and their pattern bytes b; of a payload s and a decoded buffer d
pub record Searchable (items : List Slot) (count : ℕ) (b s d : List ℕ) : Type 0 where
  pub few : count ≤ max_items
  pub patterns : length (patterns_of (take count items)) ≤ max_patterns
  pub stored : bytes_of (patterns_of (take count items)) ≤ length b
  pub bytes : length b < size_bound
  pub payload : length s < size_bound
  pub decoded : length d < size_bound
