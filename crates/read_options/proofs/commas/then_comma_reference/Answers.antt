use Rattle.scan_steps.proofs.Closing.{comma_reads, no_comma}
use Rattle.read_options.proofs.commas.then_comma_reference.Goals as goal

pub returns-then-next_is : goal.returns-then-next_is
returns-then-next_is c = comma_reads _ c.requires c.next_is.ensures c.if-next_is.true c.then_literal-comma.ensures c.then_reference.ensures

pub returns : goal.returns
returns c = no_comma _ c.requires c.next_is.ensures c.if-next_is.false
