use mathlib.Core.Path.{◌≡◌}
use Rattle.definitions.specs.Limits.{document_limits}
use Rattle.definitions.specs.Decisions.{decided}
use Rattle.definitions.specs.LoadedBooks.{rules_in}
use Rattle.rule_book.proofs.RulesFrom.{rules_from}
use Rattle.guard.proofs.decide_by.Given as goal

abbrev pub invariant-loop-rule : goal.invariant-loop-rule
invariant-loop-rule l =
    decided document_limits l.p l.decoded l.dir l.m (rules_in l.book l.fn.rules)
    ≡ decided document_limits l.p l.decoded l.dir l.m (rules_from l.book l.fn.rules l.rule-index)
