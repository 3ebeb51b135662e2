-- By the two tests that find what the number says.
use Rattle.replay_totals.proofs.Outcomes.{says_bad, says_pass, says_hold}
use Rattle.replay_totals.proofs.count.Goals as goal

pub returns-then-n-eq-BAD : goal.returns-then-n-eq-BAD
returns-then-n-eq-BAD c = rw (says_bad _ c.if-n-eq-BAD.true, c.next_number.ensures)

pub returns-then-n-ge-PASS : goal.returns-then-n-ge-PASS
returns-then-n-ge-PASS c = rw (says_pass _ c.if-n-eq-BAD.false c.if-n-ge-PASS.true, c.next_number-then-n-ge-PASS.ensures)

pub returns : goal.returns
returns c = rw (says_hold _ c.if-n-eq-BAD.false c.if-n-ge-PASS.false, c.next_number-2.ensures)
