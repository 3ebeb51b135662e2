use Rattle.scan_cursors.proofs.Readings.{pure_reads}
use Rattle.scan_cursors.proofs.Choices.{first_reads, second_reads}
use Rattle.read_operators.proofs.then_or_equal.Goals as goal

pub returns-then-next_is : goal.returns-then-next_is
returns-then-next_is c = first_reads c.next_is.ensures c.if-next_is.true c.then_literal_as.ensures

pub returns : goal.returns
returns c =
    let i = c.requires in
    second_reads c.next_is.ensures c.if-next_is.false (pure_reads _ _ _ i)
