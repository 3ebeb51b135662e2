-- Each arm puts its variant's text.
use mathlib.Core.Path.{ap}
use Rattle.write_bytes.proofs.Putting.{then, told}
use Rattle.book_answers.specs.BookAnswers.{judgement_text}
use Rattle.book_answers.proofs.put_judgement.Goals as goal

pub returns-in-Ok : goal.returns-in-Ok
unfolding judgement_text
returns-in-Ok c = told (ap judgement_text c.in-Ok.is) (then c.put_word-a1.ensures c.put_decimal.ensures)

pub returns-in-Err : goal.returns-in-Err
unfolding judgement_text
returns-in-Err c = told (ap judgement_text c.in-Err.is) c.put_refused.ensures
