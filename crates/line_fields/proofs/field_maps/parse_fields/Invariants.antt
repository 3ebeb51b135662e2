use Prim.Native.Nat.{◌+◌, ◌-◌}
use lib.ListN.{length}
use Rattle.line_parts.proofs.PartsFrom.{parts_from}
use Rattle.line_fields.proofs.Fields.{Inserting}
use Rattle.line_fields.proofs.field_maps.parse_fields.Given as goal

abbrev pub invariant-loop-at : goal.invariant-loop-at
invariant-loop-at l = Inserting l.s l.m (parts_from 44 l.s l.at)

abbrev pub decreases-loop-at : goal.decreases-loop-at
decreases-loop-at l = length l.s + 1 - l.at
