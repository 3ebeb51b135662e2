-- The comma decides whether the word must stand.
use Rattle.scan_steps.proofs.Closing.{comma_reads, no_comma}
use Rattle.scan_steps.proofs.words.then_comma_word.Goals as goal

pub returns-then-next_is : goal.returns-then-next_is
returns-then-next_is c =
    let comma = c.then_literal-comma.ensures in
    comma_reads _ c.requires c.next_is.ensures c.if-next_is.true comma c.then_keyword.ensures.reads

pub returns : goal.returns
returns c = no_comma _ c.requires c.next_is.ensures c.if-next_is.false
