-- Each return is the law of the test that led there; the text that is read lies in the line.
use Rattle.std.specs.Prelude.{Err}
use Rattle.std.proofs.lemmas.Result.{err_from_is_err_and}
use mathlib.Core.Path.{sym, ap, ◌∙◌}
use native.Mathlib.Omega.{arith}
use Rattle.rule_book.proofs.Checking.{formed, unformed, line_over, other_form, text-within, not-rising, part_long, text-refused, line-passed}
use Rattle.rule_book.proofs.check_line.Goals as goal

pub returns-then-n-ge-RULES : goal.returns-then-n-ge-RULES
returns-then-n-ge-RULES c =
    let x = c.args in line_over x.n x.last x.l.now (omega (arith, c.if-n-ge-RULES.true))

pub returns-in_err-rule : goal.returns-in_err-rule
returns-in_err-rule c =
    let x = c.args in
    let p = err_from_is_err_and c.from_residual.result c.from_residual.ensures.1 in
    let m = unformed c.parse_rule.result (sym c.ok_or.ensures.value ∙ c.in_err-rule.was ∙ ap Err (sym p.2)) in
    p.1 ∙ ap Err (sym m.1) ∙ other_form x.n x.last x.l.now (omega (arith, c.if-n-ge-RULES.false)) c.parse_rule.result c.parse_rule.ensures m.0

pub returns-then-rule-last : goal.returns-then-rule-last
returns-then-rule-last c =
    let x = c.args in
    let f = formed c.parse_rule.result (sym c.ok_or.ensures.value ∙ c.in_ok-rule.was) in
    not-rising x.n x.last x.l.now (omega (arith, c.if-n-ge-RULES.false)) c.parse_rule.result c.parse_rule.ensures _ f (omega (arith, c.if-rule-last.true))

pub overflow_add-rule : goal.overflow_add-rule
overflow_add-rule c =
    let x = c.args in
    let f = formed c.parse_rule.result (sym c.ok_or.ensures.value ∙ c.in_ok-rule.was) in
    omega (arith, text-within x.n x.last x.l.now (omega (arith, c.if-n-ge-RULES.false)) c.parse_rule.result c.parse_rule.ensures _ f)

pub slice_bounds-read-end : goal.slice_bounds-read-end
slice_bounds-read-end c =
    let x = c.args in
    let f = formed c.parse_rule.result (sym c.ok_or.ensures.value ∙ c.in_ok-rule.was) in
    omega (arith, text-within x.n x.last x.l.now (omega (arith, c.if-n-ge-RULES.false)) c.parse_rule.result c.parse_rule.ensures _ f)

pub returns-in-Ok : goal.returns-in-Ok
returns-in-Ok c =
    let x = c.args in
    let r = c.in_ok-rule.rule in
    let f = formed c.parse_rule.result (sym c.ok_or.ensures.value ∙ c.in_ok-rule.was) in
    line-passed x.n x.last x.l.now (omega (arith, c.if-n-ge-RULES.false)) c.parse_rule.result c.parse_rule.ensures r f
    (omega (arith, c.if-rule-last.false)) c.read.result c.read.ensures.answer (part_long r.start r.len x.l.now) c.in-Ok.is

pub returns-in-Err : goal.returns-in-Err
returns-in-Err c =
    let x = c.args in
    let r = c.in_ok-rule.rule in
    let e = c.in-Err.e in
    let f = formed c.parse_rule.result (sym c.ok_or.ensures.value ∙ c.in_ok-rule.was) in
    text-refused x.n x.last x.l.now (omega (arith, c.if-n-ge-RULES.false)) c.parse_rule.result c.parse_rule.ensures r f
    (omega (arith, c.if-rule-last.false)) c.read.result c.read.ensures.answer (part_long r.start r.len x.l.now) e.refusal e.place c.in-Err.is
