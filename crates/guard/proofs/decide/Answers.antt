-- The book's refusal, or what its rules decide.
use Rattle.std.proofs.Common.{rules, Err}
use mathlib.Core.Path.{◌≡◌, ◌∙◌}
use Rattle.guard.proofs.Books.{decision_told, book_refused, book_accepted}
use Rattle.guard.proofs.decide.Goals as goal

pub returns-in_err-b : goal.returns-in_err-b
returns-in_err-b c =
    let x = c.args in
    let passed_on : c.from_residual.result ≡ Err c.in_err-b.field-0.0 = search rules in
    let z = decision_told x.p.now x.decoded.now x.dir x.m x.book.now
    (passed_on ∙ book_refused x.p.now x.decoded.now x.dir x.m x.book.now c.load-b.ensures _ _ c.in_err-b.was) in
    record { answer = z.0; numbers = z.1 }

pub returns : goal.returns
returns c =
    let x = c.args in
    let z = decision_told x.p.now x.decoded.now x.dir x.m x.book.now
    (book_accepted x.p.now x.decoded.now x.dir x.m x.book.now c.load-b.ensures _ c.in_ok-b.was c.decide_by.ensures) in
    record { answer = z.0; numbers = z.1 }
