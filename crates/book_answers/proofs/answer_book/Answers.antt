-- The judgement of the book, and the LF after it.
use Rattle.std.specs.Prelude.{Result, ℕ}
use mathlib.Core.Path.{sym, ap}
use mathlib.Core.List.{◌++◌}
use Rattle.forms.specs.Bytes.{text}
use Rattle.write_bytes.proofs.Putting.{then, told}
use Rattle.book_answers.specs.BookAnswers.{judgement_text, book_output}
use Rattle.book_answers.proofs.answer_book.Goals as goal
use Rattle.definitions.specs.declared.answers.BookRefusal.{BookRefusal}

pub returns : goal.returns
unfolding book_output
returns c = told
    (ap (λ (j : Result ℕ BookRefusal). judgement_text j ++ text "\n") (sym c.judge.ensures.answer))
    (then c.put_judgement-a1.ensures c.put.ensures)
