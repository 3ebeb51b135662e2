use Rattle.table_well_formed.proofs.ToEnd.{Walked}
use Rattle.table_well_formed.proofs.items_fit.Given as goal

abbrev pub invariant-loop-slot : goal.invariant-loop-slot
invariant-loop-slot l = Walked l.slot-items l.count l.used l.slot-index l.w
