-- Off, unread, or read and met or not: each return cites the law of its case.
use mathlib.Core.Path.{sym, ap, ◌∙◌}
use Rattle.definitions.specs.Limits.{document_limits}
use Rattle.definitions.specs.Reading.{read}
use Rattle.definitions.specs.LoadedBooks.{rule_at}
use Rattle.rule_book.proofs.RulesFrom.{source_read}
use Rattle.guard.proofs.Rules.{off_never, unread-never, on-met, read_formed, read_matchable}
use Rattle.guard.proofs.rule_decides.Goals as goal

pub returns-then-not-is_on : goal.returns-then-not-is_on
unfolding rule_at
returns-then-not-is_on c =
    let x = c.args in
    sym (off_never x.p.now x.decoded.now x.dir x.m (rule_at x.book.now x.rule) (sym c.is_on.ensures ∙ c.if-not-is_on.true))

pub meets-requires : goal.meets-requires
meets-requires c = read_matchable _ c.read-reading.result (c.read-reading.ensures.answer ∙ ap (read document_limits) c.text_at.ensures) c.in-Ok.is

pub returns-in-Ok : goal.returns-in-Ok
unfolding rule_at
returns-in-Ok c =
    let x = c.args in
    let rule = rule_at x.book.now x.rule in
    let table = c.read-reading.result.table in
    let formed = read_formed _ c.read-reading.result (c.read-reading.ensures.answer ∙ ap (read document_limits) c.text_at.ensures) c.in-Ok.is in
    c.meets.ensures table.name table.len table.used formed
    ∙ on-met x.p.now x.decoded.now x.dir x.m rule c.read-reading.result (source_read x.book.now x.rule c.read-reading.ensures.answer c.text_at.ensures)
    (sym c.is_on.ensures ∙ c.if-not-is_on.false)

pub returns-in-Err : goal.returns-in-Err
returns-in-Err c =
    let x = c.args in
    let rule = rule_at x.book.now x.rule in
    sym
    (unread-never x.p.now x.decoded.now x.dir x.m rule c.read-reading.result
    (source_read x.book.now x.rule c.read-reading.ensures.answer c.text_at.ensures) _ _ c.in-Err.is)
