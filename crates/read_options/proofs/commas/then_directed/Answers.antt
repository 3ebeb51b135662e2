use Rattle.scan_cursors.proofs.Readings.{pair_reads}
use Rattle.scan_steps.proofs.Closing.{comma_reads, no_comma}
use Rattle.read_options.proofs.commas.then_directed.Goals as goal

pub returns-then-next_is : goal.returns-then-next_is
returns-then-next_is c =
    let comma = c.then_literal-comma.ensures in
    let both = pair_reads comma.inside c.then_reference-r.ensures c.then_comma_word-m.ensures in
    comma_reads _ c.requires c.next_is.ensures c.if-next_is.true comma both

pub returns : goal.returns
returns c = no_comma _ c.requires c.next_is.ensures c.if-next_is.false
