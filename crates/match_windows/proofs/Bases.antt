-- What a range is counted from.
use Rattle.std.specs.Prelude.{Option, Some, None}
use mathlib.Core.Path.{◌≡◌, refl}
use Prim.Native.Nat.{ℕ, ◌<◌}
use native.Mathlib.Omega.{arith}
use Rattle.definitions.specs.declared.table.Reference.{Reference}
use Rattle.definitions.specs.declared.table.Reference.TheVariants as reference
use Rattle.definitions.specs.declared.table.WithinValue.{WithinValue}
use Rattle.definitions.specs.declared.packets.Match.{Match}
use Rattle.definitions.specs.Windows.{last_end, base, window_start}
use Rattle.match_windows.specs.Spans.{size_bound}

pub base_small : (l : Option Match) (r : Reference) → last_end l < size_bound → base l r < size_bound
base_small l reference.Match h = h
base_small l reference.Packet h = omega arith
base_small l reference.Context h = omega arith

-- without a distance the field's length plays no part
pub free_start : (l : Option Match) (len : ℕ) (w : Option WithinValue) → window_start l 0 None w ≡ window_start l len None w
free_start l len None = refl
free_start l len (Some w) = refl
