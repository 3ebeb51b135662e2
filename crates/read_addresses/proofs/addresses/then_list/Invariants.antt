use Rattle.scan_cursors.proofs.Onward.{left}
use Rattle.read_addresses.proofs.Commas.{Gathered}
use Rattle.read_addresses.proofs.addresses.then_list.Given as goal

abbrev pub invariant-loop-comma : goal.invariant-loop-comma
invariant-loop-comma l = Gathered l.s l.initial.here l.initial.list l.list l.count l.here

abbrev pub decreases-loop-comma : goal.decreases-loop-comma
decreases-loop-comma l = left l.s l.here
