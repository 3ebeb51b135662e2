-- The sizes that the windows' sums and the comparison of bytes rest on. Document 01, section "Meaning".
use Rattle.std.specs.Prelude.{ℕ, ◌<◌, ◌≡◌, List, length, Option}
use Rattle.definitions.specs.declared.table.Pattern.{Pattern}
use Rattle.definitions.specs.declared.packets.Match.{Match}
use Rattle.definitions.specs.Windows.{last_end}
use Rattle.match_windows.specs.Spans.{size_bound}

-- a payload s, a decoded buffer d, the pattern p with its bytes b and the last match before it
pub record Bounded (s d : List ℕ) (p : Pattern) (b : List ℕ) (l : Option Match) : Type 0 where
  pub payload : length s < size_bound
  pub decoded : length d < size_bound
  pub last : last_end l < size_bound
  pub pattern : p.len < size_bound
  pub own : length b ≡ p.len
