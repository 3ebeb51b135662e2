use mathlib.Core.Path.{◌≡◌}
use lib.ListN.{drop}
use Rattle.write_bytes.specs.Puts.{puts}
use Rattle.block_answers.specs.AnswerBytes.{answer_bytes}
use Rattle.block_answers.proofs.put_answers.Given as goal

abbrev pub invariant-loop-a : goal.invariant-loop-a
invariant-loop-a l = puts l.initial.out l.initial.next (answer_bytes l.first) ≡ puts l.out l.next (answer_bytes (drop l.a-index l.first))
