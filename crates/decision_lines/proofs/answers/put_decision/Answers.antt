-- Each arm puts its variant's text.
use mathlib.Core.Path.{ap}
use Rattle.write_bytes.proofs.Putting.{then, told}
use Rattle.decision_lines.specs.DecisionLines.{decision_text}
use Rattle.decision_lines.proofs.answers.put_decision.Goals as goal

pub returns-in-Ok : goal.returns-in-Ok
unfolding decision_text
returns-in-Ok c = told (ap decision_text c.in-Ok.is) (then c.put_action-a1.ensures c.put_decimal.ensures)

pub returns-in-Err : goal.returns-in-Err
returns-in-Err c = told (ap decision_text c.in-Err.is) c.put_unjudged.ensures
