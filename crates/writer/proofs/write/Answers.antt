-- By what was tested and answered, with its numbers: a table that is refused for its length is so for any buffer (`refused_anywhere`), and one that was
-- written into room of its own is copied from there.
use Rattle.std.specs.Prelude.{Err}
use Rattle.std.proofs.lemmas.Result.{err_from_is_err_and}
use mathlib.Core.Path.{◌≡◌, refl, sym, ◌∙◌}
use native.Mathlib.Omega.{arith}
use Rattle.laws.proofs.Numbers.{write_told}
use Rattle.write_bytes.proofs.Putting.{told}
use Rattle.writer.proofs.Measured.{ill_formed_lem, refused_anywhere, taken_back, too_short, written}
use Rattle.writer.proofs.write.Goals as goal

pub returns-then-not-well_formed : goal.returns-then-not-well_formed
returns-then-not-well_formed c =
    let x = c.args in
    let formed = c.well_formed-2.ensures x.t.protocol x.t.flow (omega arith) in
    let a = ill_formed_lem x.t x.out.now (sym formed ∙ c.if-not-well_formed.true) in
    record { answer = a.0; buffer = a.1; numbers = write_told _ _ a.0 }

pub returns-in_err-n : goal.returns-in_err-n
returns-in_err-n c =
    let x = c.args in
    let formed = sym (c.well_formed-2.ensures x.t.protocol x.t.flow (omega arith)) ∙ c.if-not-well_formed.false in
    let p = err_from_is_err_and c.from_residual.result c.from_residual.ensures.1 in
    let answered : c.from_residual.result ≡ Err c.in_err-n.field-0.0 = rw (p.1, p.2) refl in
    let e = sym c.write_formed.ensures.answer ∙ c.in_err-n.was in
    let a = refused_anywhere x.t formed _ refl c.in_err-n.field-0.0 e x.out.now in
    let due = answered ∙ sym e ∙ a.0 in
    record { answer = due; buffer = a.1; numbers = write_told _ _ due }

pub returns-then-out-n : goal.returns-then-out-n
returns-then-out-n c =
    let x = c.args in
    let formed = sym (c.well_formed-2.ensures x.t.protocol x.t.flow (omega arith)) ∙ c.if-not-well_formed.false in
    let a = too_short x.t formed _ refl c.in_ok-n.n (sym c.write_formed.ensures.answer ∙ c.in_ok-n.was) x.out.now c.if-out-n.true in
    record { answer = a.0; buffer = a.1; numbers = write_told _ _ a.0 }

pub returns : goal.returns
returns c =
    let x = c.args in
    let formed = sym (c.well_formed-2.ensures x.t.protocol x.t.flow (omega arith)) ∙ c.if-not-well_formed.false in
    let e = sym c.write_formed.ensures.answer ∙ c.in_ok-n.was in
    let back = taken_back x.t formed _ refl c.in_ok-n.n e c.write_formed.ensures.put in
    let a = written x.t formed _ refl c.in_ok-n.n e x.out.now c.if-out-n.false (told back c.put_front.ensures) in
    record { answer = a.0; buffer = a.1; numbers = write_told _ _ a.0 }
