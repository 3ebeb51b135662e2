-- What is asked of a table's parts that are matched without a test of refusal 20: a well-formed table has it (proofs/Matching.antt).
use Rattle.std.specs.Prelude.{ℕ, ◌≤◌, List, length, take}
use Rattle.definitions.specs.declared.table.Slot.{Slot}
use Rattle.definitions.specs.Limits.{document_limits, max_patterns, max_items}
use Rattle.definitions.specs.Items.{patterns_of}
use Rattle.definitions.specs.WellFormed.{bytes_of}

-- so many of the items in use, at most 8 of them patterns, whose bytes are all there
pub record Matchable (items : List Slot) (count : ℕ) (b : List ℕ) : Type 0 where
  pub few : count ≤ max_items
  pub patterns : length (patterns_of (take count items)) ≤ max_patterns
  pub stored : bytes_of (patterns_of (take count items)) ≤ length b
  pub bytes : length b ≤ document_limits.room
