-- What the search over the items rests on. Document 01, section "Meaning".
use Rattle.std.specs.Prelude.{ℕ, ◌+◌, ◌≤◌, ◌<◌, ◌≡◌, List, length, Option}
use Rattle.definitions.specs.declared.table.Pattern.{Pattern}
use Rattle.definitions.specs.declared.table.Slot.{Slot}
use Rattle.definitions.specs.declared.packets.Placement.{Placement}
use Rattle.definitions.specs.declared.packets.Match.{Match}
use Rattle.definitions.specs.Limits.{max_patterns}
use Rattle.definitions.specs.Items.{patterns_of}
use Rattle.definitions.specs.WellFormed.{bytes_of}
use Rattle.definitions.specs.Windows.{last_end}
use Rattle.definitions.specs.Placements.{constraints, positives}
use Rattle.match_windows.specs.Spans.{size_bound}

-- lengths and places stay far below what a number holds: of pattern bytes b, a payload s and a decoded buffer d
pub record Small (b s d : List ℕ) (l : Option Match) : Type 0 where
  pub bytes : length b < size_bound
  pub payload : length s < size_bound
  pub decoded : length d < size_bound
  pub last : last_end l < size_bound

-- the items sls are left: their patterns' bytes are there, and room for the starts of the positive ones
pub record ReadyItems (sls : List Slot) (b s d : List ℕ) (l : Option Match) (chosen : Placement) : Type 0 where
  pub small : Small b s d l
  pub stored : bytes_of (patterns_of sls) ≤ length b
  pub room : chosen.count + positives (constraints sls b) ≤ max_patterns

-- the positive pattern p with the bytes o is to be placed before them
pub record Trying (sls : List Slot) (b : List ℕ) (p : Pattern) (o s d : List ℕ) (l : Option Match) (chosen : Placement) : Type 0 where
  pub small : Small b s d l
  pub len : p.len < size_bound
  pub own : length o ≡ p.len
  pub stored : bytes_of (patterns_of sls) ≤ length b
  pub room : chosen.count + 1 + positives (constraints sls b) ≤ max_patterns
