use mathlib.Core.Path.{◌≡◌}
use lib.ListN.{drop}
use Rattle.write_bytes.specs.Puts.{puts}
use Rattle.write_bytes.proofs.put_each.Given as goal

abbrev pub invariant-loop-b : goal.invariant-loop-b
invariant-loop-b l = puts l.initial.out l.initial.next l.w ≡ puts l.out l.next (drop l.b-index l.w)
