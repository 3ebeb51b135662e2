-- Off or unread, nothing changes; read, the table decides. The answer of a rule is never the open number.
use mathlib.Core.Path.{sym, ◌∙◌}
use native.Mathlib.Omega.{arith}
use Rattle.definitions.specs.LoadedBooks.{rule_at}
use Rattle.definitions.specs.Blocks.{records_up_to}
use Rattle.rule_book.proofs.RulesFrom.{source_read}
use Rattle.guard.proofs.Rules.{read_formed}
use Rattle.guard_blocks.proofs.Rules.{off_kept, unread_kept, read_decides}
use Rattle.guard_blocks.proofs.decide_rule.Goals as goal

pub returns-then-not-is_on : goal.returns-then-not-is_on
unfolding rule_at
returns-then-not-is_on c =
    let n = c.answer_number-answer in
    let x = c.args in
    record {
      below = omega arith;
      numbers = off_kept (rule_at x.book.now x.rule) (records_up_to x.packets x.block.now) x.out.now (sym c.is_on.ensures ∙ c.if-not-is_on.true);
    }

pub decide_table-requires : goal.decide_table-requires
decide_table-requires c = (read_formed _ c.read-reading.result c.read-reading.ensures.answer c.in-Ok.is, c.requires)

pub returns-in-Ok : goal.returns-in-Ok
unfolding rule_at
returns-in-Ok c =
    let n = c.answer_number-answer in
    let x = c.args in
    let rule = rule_at x.book.now x.rule in
    record {
      below = omega arith;
      numbers = c.decide_table.ensures
          ∙ read_decides rule (records_up_to x.packets x.block.now) x.out.now c.read-reading.result
          (source_read x.book.now x.rule c.read-reading.ensures.answer c.text_at.ensures) (sym c.is_on.ensures ∙ c.if-not-is_on.false)
          n.ensures.number;
    }

pub returns-in-Err : goal.returns-in-Err
returns-in-Err c =
    let n = c.answer_number-answer in
    let x = c.args in
    let rule = rule_at x.book.now x.rule in
    record {
      below = omega arith;
      numbers = unread_kept rule (records_up_to x.packets x.block.now) x.out.now c.read-reading.result
          (source_read x.book.now x.rule c.read-reading.ensures.answer c.text_at.ensures) _ _ c.in-Err.is;
    }
