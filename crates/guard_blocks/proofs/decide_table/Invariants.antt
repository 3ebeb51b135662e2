use Rattle.guard_blocks.specs.Numbering.{meets_record}
use Rattle.guard_blocks.proofs.Renumbering.{Renumbering}
use Rattle.guard_blocks.proofs.decide_table.Given as goal

abbrev pub invariant-loop-i : goal.invariant-loop-i
invariant-loop-i l = Renumbering (meets_record l.t) l.answer l.block l.packets l.initial.out l.out l.at l.i
