-- Rule after rule: what is left to be put is what is to be put from the loop's place on.
use native.Mathlib.Omega.{arith}
use Rattle.compare_rules.proofs.LoadedRules.{in_room}
use Rattle.compare_rules.proofs.Merging.{ending_on, ended}
use Rattle.compare_rules.proofs.put_news.Goals as goal

pub bounds-rules-j : goal.bounds-rules-j
bounds-rules-j c = in_room c.loop-j.invariant.used c.loop-j.j (omega arith)

pub offset_bounds-rules-j : goal.offset_bounds-rules-j
offset_bounds-rules-j c = omega (arith, in_room c.loop-j.invariant.used c.loop-j.j (omega arith))

pub loop-j-preserved : goal.loop-j-preserved
loop-j-preserved c = ending_on c.loop-j.invariant _ (omega arith) c.put_new-next.ensures

pub returns : goal.returns
returns c = ended c.loop-j.invariant (omega arith)
