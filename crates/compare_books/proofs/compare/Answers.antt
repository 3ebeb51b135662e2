-- The first book's refusal, the second's, or the lines of their rules.
use Rattle.write_bytes.proofs.Putting.{told}
use Rattle.compare_laws.specs.Comparisons.{refused_output}
use Rattle.compare_books.proofs.Books.{first_told, second_told, both_told}
use Rattle.compare_books.proofs.compare.Goals as goal

pub returns-in-Err : goal.returns-in-Err
unfolding refused_output
returns-in-Err c =
    let z = c.args in
    told (first_told z.first.now z.second.now c.load-x.ensures _ _ c.in-Err.is) c.put_refused_book.ensures

pub returns-in-Err-judgement : goal.returns-in-Err-judgement
unfolding refused_output
returns-in-Err-judgement c =
    let z = c.args in
    told (second_told z.first.now z.second.now c.load-x.ensures _ c.in-Ok.is c.load-y.ensures _ _ c.in-Err-judgement.is)
    c.put_refused_book-in-Err-judgement.ensures

pub returns-in-Ok-judgement : goal.returns-in-Ok-judgement
returns-in-Ok-judgement c =
    let z = c.args in
    told (both_told z.first.now z.second.now c.load-x.ensures _ c.in-Ok.is c.load-y.ensures _ c.in-Ok-judgement.is)
    c.put_rules.ensures
