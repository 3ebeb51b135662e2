-- By the test.
use Rattle.replay_lines.proofs.count_if.Goals as goal

pub returns-then-answered : goal.returns-then-answered
returns-then-answered c = rw c.if-answered.true c.count.ensures

pub returns : goal.returns
returns c = rw c.if-answered.false
