use Rattle.scan_cursors.proofs.Readings.{preceded_reads, pure_reads}
use Rattle.scan_cursors.proofs.Choices.{first_reads, second_reads}
use Rattle.read_addresses.proofs.dotted.then_prefix.Goals as goal

pub returns-then-next_is : goal.returns-then-next_is
returns-then-next_is c =
    let number = preceded_reads c.requires c.then_literal-slash.ensures c.then_byte.ensures in
    first_reads c.next_is.ensures c.if-next_is.true number

pub returns : goal.returns
returns c = second_reads c.next_is.ensures c.if-next_is.false (pure_reads _ _ _ c.requires)
