use mathlib.Core.Path.{◌≡◌}
use lib.ListN.{take, drop}
use Rattle.write_bytes.specs.Puts.{puts}
use Rattle.case_lists.specs.AnswerTexts.{starts_after}
use Rattle.case_lists.proofs.placement_text.put_starts_after.Given as goal

abbrev pub invariant-loop-i : goal.invariant-loop-i
invariant-loop-i l = puts l.initial.out l.initial.next (starts_after (drop 1 (take l.n l.starts))) ≡ puts l.out l.next (starts_after (drop l.i (take l.n l.starts)))
