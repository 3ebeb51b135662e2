use mathlib.Core.Path.{◌≡◌}
use Prim.Native.Nat.{◌≤◌}
use lib.ListN.{length, drop}
use Rattle.definitions.specs.Canonical.{slot_options, options_text}
use Rattle.write_bytes.specs.Puts.{puts}
use Rattle.write_options.proofs.put_items.Given as goal

abbrev pub invariant-loop-slot : goal.invariant-loop-slot
invariant-loop-slot l = (l.from ≤ length l.bytes)
    × (puts l.initial.out l.initial.next (options_text (slot_options l.slot-items l.bytes)) ≡ puts l.out l.next (options_text (slot_options (drop l.slot-index l.slot-items) (drop l.from l.bytes))))
