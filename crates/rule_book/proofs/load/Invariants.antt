use Prim.Native.Nat.{◌-◌}
use lib.ListN.{length}
use Rattle.rule_book.proofs.Loading.{Loading}
use Rattle.rule_book.proofs.load.Given as goal

abbrev pub invariant-loop-at : goal.invariant-loop-at
invariant-loop-at l = Loading l.book l.list l.n l.last l.at

abbrev pub decreases-loop-at : goal.decreases-loop-at
decreases-loop-at l = length l.book - l.at
