use Rattle.read_references.proofs.Counted.{Counted}
use Rattle.read_references.proofs.usable_count.Given as goal

abbrev pub invariant-loop-slot : goal.invariant-loop-slot
invariant-loop-slot l = Counted l.slot-items l.slot-index l.usable l.last
