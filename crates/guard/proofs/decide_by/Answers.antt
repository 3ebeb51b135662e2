-- The loop keeps the decision: that of all rules is that of the rules from its place on.
use mathlib.Core.Path.{sym, ap, ◌∙◌}
use native.Mathlib.Omega.{arith}
use Rattle.definitions.specs.Limits.{document_limits}
use Rattle.definitions.specs.Decisions.{decided}
use Rattle.definitions.specs.LoadedBooks.{rule_at}
use Rattle.rule_book.proofs.RulesFrom.{rules_all}
use Rattle.guard.proofs.Rules.{rules_next, rules_none, decided_here, decided_on, ended}
use Rattle.guard.proofs.decide_by.Goals as goal

pub loop-rule-init : goal.loop-rule-init
loop-rule-init c =
    let x = c.args in
    ap (decided document_limits x.p.now x.decoded.now x.dir x.m) (rules_all x.book.now x.rules)

pub returns-then-rule_decides : goal.returns-then-rule_decides
unfolding rule_at
returns-then-rule_decides c =
    let x = c.args in
    sym
    (c.loop-rule.invariant
    ∙ ap (decided document_limits x.p.now x.decoded.now x.dir x.m)
    (rules_next x.book.now x.rules c.min.result c.min.ensures c.loop-rule.rule-index _ c.loop-rule-test.true)
    ∙ decided_here x.p.now x.decoded.now x.dir x.m _ _ (sym c.rule_decides.ensures ∙ c.if-rule_decides.true))

pub loop-rule-preserved : goal.loop-rule-preserved
loop-rule-preserved c =
    let x = c.args in
    c.loop-rule.invariant
    ∙ ap (decided document_limits x.p.now x.decoded.now x.dir x.m)
    (rules_next x.book.now x.rules c.min.result c.min.ensures c.loop-rule.rule-index _ c.loop-rule-test.true)
    ∙ decided_on x.p.now x.decoded.now x.dir x.m _ _ (sym c.rule_decides.ensures ∙ c.if-rule_decides.false)

pub returns : goal.returns
returns c =
    let x = c.args in
    sym
    (c.loop-rule.invariant
    ∙ ap (decided document_limits x.p.now x.decoded.now x.dir x.m)
    (rules_none x.book.now x.rules c.min.result c.min.ensures c.loop-rule.rule-index (omega arith) c.loop-rule-test.false)
    ∙ ended x.p.now x.decoded.now x.dir x.m)
