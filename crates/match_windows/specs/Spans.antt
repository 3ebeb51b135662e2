-- The window of a pattern as a span of starts, and the starts at which it lies. Document 01, section "Meaning".
use Rattle.std.specs.Prelude.{ℕ, suc, ◌+◌, ◌≤◌, ◌<◌, ◌≡◌, ◌&&◌, List, length, leb, ltb, Option}
use Rattle.definitions.specs.declared.table.Pattern.{Pattern}
use Rattle.definitions.specs.Lists.{keep}
use Rattle.definitions.specs.Windows.{last_end, in_window, lies}
use Rattle.definitions.specs.Placements.{up_from}
use Rattle.match_windows.specs.declared.Window.{Window}
use Rattle.definitions.specs.declared.packets.Match.{Match}

-- far above every length, and far below what a signed number holds; a start's size stays below the second
abbrev pub size_bound : ℕ
size_bound = 4294967296

abbrev pub start_bound : ℕ
start_bound = 8589934592

-- what the sums of a window rest on
pub record Measured (p : Pattern) (l : Option Match) (len : ℕ) : Type 0 where
  pub field : len < size_bound
  pub last : last_end l < size_bound
  pub pattern : p.len < size_bound

-- the window holds exactly the starts of the definition, and the pattern lies inside the field at each
pub record Spans (p : Pattern) (last : Option Match) (len : ℕ) (w : Window) : Type 0 where
  pub exact : (at : ℕ) → in_window p last len at ≡ (leb w.from at && ltb at w.to)
  pub inside : (at : ℕ) → at < w.to → at + p.len ≤ len

-- each start at which the pattern p with the bytes b lies in the field f
abbrev pub places_of : Pattern → List ℕ → Option Match → List ℕ → List ℕ
places_of p b last f = keep (lies p b last f) (up_from 0 (suc (length f)))
