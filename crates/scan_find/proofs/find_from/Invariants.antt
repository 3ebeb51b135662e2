use mathlib.Core.Bool.{not}
use lib.Dec.{eqb}
use Rattle.list_laws.proofs.Runs.{Run}
use Rattle.scan_find.proofs.find_from.Given as goal

abbrev pub invariant-loop-i : goal.invariant-loop-i
invariant-loop-i l = Run (λ x. not (eqb x l.b)) l.s l.from l.i
