use native.Mathlib.Omega.{arith}
use Rattle.scan_cursors.proofs.Readings.{preceded_reads, terminated_reads, pure_reads}
use Rattle.scan_cursors.proofs.Choices.{first_reads, second_reads}
use Rattle.read_operators.proofs.then_mask.Goals as goal

pub returns-then-next_is : goal.returns-then-next_is
returns-then-next_is c =
    let i = c.requires.0 in
    let and = c.then_literal-and.ensures in
    let gap = c.then_spaces-from.ensures.1 in
    let number = terminated_reads gap.inside c.then_numeral-n.ensures.0 c.then_spaces.ensures.1 in
    (first_reads c.next_is.ensures c.if-next_is.true (preceded_reads i and (preceded_reads and.inside gap number)), c.then_numeral-n.ensures.1)

pub returns : goal.returns
returns c =
    let i = c.requires.0 in
    (second_reads c.next_is.ensures c.if-next_is.false (pure_reads _ _ _ i), omega arith)
