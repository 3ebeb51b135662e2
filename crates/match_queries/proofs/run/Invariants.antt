use mathlib.Core.Path.{◌≡◌}
use Rattle.match_queries.specs.Runs.{written}
use Rattle.match_queries.proofs.Running.{pending}
use Rattle.match_queries.proofs.run.Given as goal

abbrev pub invariant-loop-i : goal.invariant-loop-i
invariant-loop-i l = written l.t l.p l.decoded l.dir l.m l.initial.h l.queries l.initial.out ≡ pending l.t l.p l.decoded l.dir l.m l.queries l.out l.h l.i
