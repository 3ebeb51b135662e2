-- The loop keeps `Resolving`; whichever way it ends, the numbers are resolved.
use mathlib.Core.Path.{refl, sym, ◌∙◌}
use mathlib.Core.Logic.{inl, inr}
use native.Mathlib.Omega.{arith}
use Rattle.guard.proofs.Rules.{rules_next, rules_none}
use Rattle.guard_blocks.proofs.Blocks.{counted_room, counted_all_lem, still_room, resolving_on, block_closed}
use Rattle.guard_blocks.proofs.decide_block.Goals as goal
use Rattle.guard_blocks.proofs.decide_block.Goals.{else-loop-rule-test, then-loop-rule-test+then-not-any_open}

pub open_all-requires : goal.open_all-requires
open_all-requires c =
    let x = c.args in
    counted_room x.block.now x.out.now c.count_records-answered.ensures

pub loop-rule-init : goal.loop-rule-init
loop-rule-init c =
    record { same = refl; answer = refl }

pub any_open-requires : goal.any_open-requires
any_open-requires c =
    let x = c.args in
    still_room x.block.now x.out.now c.count_records-answered.ensures c.open_all.ensures c.loop-rule.invariant

pub decide_rule-requires : goal.decide_rule-requires
decide_rule-requires c =
    let x = c.args in (
      counted_all_lem x.block.now x.out.now c.count_records-answered.ensures,
      still_room x.block.now x.out.now c.count_records-answered.ensures c.open_all.ensures c.loop-rule.invariant,
    )

pub loop-rule-preserved : goal.loop-rule-preserved
loop-rule-preserved c =
    let x = c.args in
    resolving_on c.loop-rule.invariant _
    (rules_next x.book.now x.rules c.min.result c.min.ensures c.loop-rule.rule-index _ c.loop-rule-test.true) c.decide_rule.ensures.below
    c.decide_rule.ensures.numbers

pub close_all-requires : goal.close_all-requires
close_all-requires c =
    let x = c.args in
    still_room x.block.now x.out.now c.count_records-answered.ensures c.open_all.ensures c.loop-rule.invariant

pub returns : goal.returns
returns c =
    let x = c.args in
    record {
      numbers = c.close_all.ensures
          ∙ block_closed x.block.now x.out.now c.count_records-answered.ensures c.open_all.ensures c.loop-rule.invariant
          (elim c.loop-rule-test.branch [
            | else-loop-rule-test w ↦
                inl (rules_none x.book.now x.rules c.min.result c.min.ensures c.loop-rule.rule-index (omega arith) w.loop-rule-test.false)
            | then-loop-rule-test+then-not-any_open w ↦ inr (sym w.any_open.ensures ∙ w.if-not-any_open.true)
          ]);
      answered = c.count_records-answered.ensures;
    }
