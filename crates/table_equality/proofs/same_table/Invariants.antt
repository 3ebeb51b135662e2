use mathlib.Core.Path.{◌≡◌}
use lib.ListN.{length, drop}
use Rattle.definitions.specs.Limits.{max_items}
use Rattle.table_equality.specs.SameTables.{same_by, same_slot, same_table}
use Rattle.table_equality.proofs.same_table.Given as goal

abbrev pub invariant-loop-i : goal.invariant-loop-i
invariant-loop-i l =
    ((length l.t.items ≡ max_items) × (length l.u.items ≡ max_items))
    × (same_table l.t l.u ≡ same_by same_slot (drop l.i l.t.items) (drop l.i l.u.items))
