use Rattle.scan_cursors.proofs.Choices.{first_reads, second_reads}
use Rattle.read_words.proofs.then_size_word.Goals as goal

pub returns-then-next_is_letter : goal.returns-then-next_is_letter
returns-then-next_is_letter c = first_reads c.next_is_letter.ensures c.if-next_is_letter.true c.then_keyword.ensures.reads

pub returns-then-next_is_letter-2 : goal.returns-then-next_is_letter-2
returns-then-next_is_letter-2 c = second_reads c.next_is_letter.ensures c.if-next_is_letter.false
    (first_reads c.next_is_letter-2.ensures c.if-next_is_letter-2.true c.then_keyword-then-next_is_letter-2.ensures.reads)

pub returns : goal.returns
returns c = second_reads c.next_is_letter.ensures c.if-next_is_letter.false
    (second_reads c.next_is_letter-2.ensures c.if-next_is_letter-2.false
    (c.then_either_keyword.ensures.reads))
