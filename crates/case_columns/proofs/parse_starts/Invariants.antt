use mathlib.Core.List.{List}
use Prim.Native.Nat.{◌+◌, ◌-◌}
use lib.ListN.{length}
use Rattle.definitions.specs.declared.packets.Start.{Start}
use Rattle.line_parts.proofs.PartsFrom.{parts_from}
use Rattle.case_columns.proofs.Starts.{Starting}
use Rattle.case_columns.proofs.parse_starts.Given as goal

abbrev pub invariant-loop-at : goal.invariant-loop-at
invariant-loop-at l = (held : List Start) × Starting l.s held l.starts l.count (parts_from 44 l.s l.at)

abbrev pub decreases-loop-at : goal.decreases-loop-at
decreases-loop-at l = length l.s + 1 - l.at
