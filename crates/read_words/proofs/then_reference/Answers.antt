use Rattle.scan_cursors.proofs.Choices.{first_reads, second_reads}
use Rattle.read_words.proofs.then_reference.Goals as goal

pub returns-then-next_is_letter : goal.returns-then-next_is_letter
returns-then-next_is_letter c = first_reads c.next_is_letter.ensures c.if-next_is_letter.true c.then_keyword.ensures.reads

pub returns : goal.returns
returns c = second_reads c.next_is_letter.ensures c.if-next_is_letter.false
    (c.then_either_keyword.ensures.reads)
