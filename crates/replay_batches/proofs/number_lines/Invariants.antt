use Rattle.replay_batches.proofs.Numbering.{Numbering}
use Rattle.replay_batches.proofs.number_lines.Given as goal

abbrev pub invariant-loop-i : goal.invariant-loop-i
invariant-loop-i l = Numbering l.initial.marks l.n l.numbers l.marks l.k l.i
