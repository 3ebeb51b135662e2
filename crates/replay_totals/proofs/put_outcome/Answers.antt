-- By the two tests that find what the number says.
use mathlib.Core.Path.{ap}
use Rattle.write_bytes.proofs.Putting.{then, told}
use Rattle.replay_laws.specs.Replays.{outcome_text}
use Rattle.replay_totals.proofs.Outcomes.{says_bad, says_pass, says_hold}
use Rattle.replay_totals.proofs.put_outcome.Goals as goal

pub returns-then-n-eq-BAD : goal.returns-then-n-eq-BAD
returns-then-n-eq-BAD c = told (ap outcome_text (says_bad _ c.if-n-eq-BAD.true)) c.put_word.ensures

pub returns-then-n-ge-PASS : goal.returns-then-n-ge-PASS
returns-then-n-ge-PASS c = told
    (ap outcome_text (says_pass _ c.if-n-eq-BAD.false c.if-n-ge-PASS.true))
    (then c.put_word-next.ensures c.put_decimal.ensures)

pub returns : goal.returns
returns c = told
    (ap outcome_text (says_hold _ c.if-n-eq-BAD.false c.if-n-ge-PASS.false))
    (then c.put_word-next-2.ensures c.put_decimal-2.ensures)
