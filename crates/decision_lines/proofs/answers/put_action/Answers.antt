-- Each arm puts its variant's word.
use mathlib.Core.Path.{ap}
use Rattle.write_bytes.proofs.Putting.{told}
use Rattle.decision_lines.specs.DecisionLines.{action_text}
use Rattle.decision_lines.proofs.answers.put_action.Goals as goal

pub returns-in-Pass : goal.returns-in-Pass
returns-in-Pass c = told (ap action_text c.in-Pass.is) c.put_word.ensures

pub returns-in-Hold : goal.returns-in-Hold
returns-in-Hold c = told (ap action_text c.in-Hold.is) c.put_word-in-Hold.ensures
