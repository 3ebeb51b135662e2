use Prim.Native.Nat.{◌+◌, ◌-◌}
use Rattle.compare_rules.proofs.Merging.{Merging}
use Rattle.compare_rules.proofs.put_rules.Given as goal

abbrev pub invariant-loop-i : goal.invariant-loop-i
invariant-loop-i l = Merging l.first l.a l.n l.second l.b l.m l.initial.out l.initial.next l.out l.next l.i l.j

abbrev pub decreases-loop-i : goal.decreases-loop-i
decreases-loop-i l = (l.n - l.i) + (l.m - l.j)
