use mathlib.Core.Path.{◌≡◌}
use lib.Dec.{leb}
use lib.ListN.{drop}
use Rattle.definitions.specs.Parts.{find}
use Rattle.scan_find.proofs.none_in_group.Given as goal

abbrev pub invariant-loop-x : goal.invariant-loop-x
invariant-loop-x l = l.none ≡ leb l.x-index (find l.b (drop l.at l.s))
