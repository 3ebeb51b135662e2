use Rattle.guard_blocks.proofs.Blocks.{Resolving}
use Rattle.guard_blocks.proofs.decide_block.Given as goal

abbrev pub invariant-loop-rule : goal.invariant-loop-rule
invariant-loop-rule l = Resolving l.book l.block l.fn.rules l.packets l.initial.out l.out l.rule-index
