use Rattle.compare_rules.proofs.Merging.{Ending}
use Rattle.compare_rules.proofs.put_news.Given as goal

abbrev pub invariant-loop-j : goal.invariant-loop-j
invariant-loop-j l = Ending l.second l.rules l.n l.from l.initial.out l.initial.next l.out l.next l.j
