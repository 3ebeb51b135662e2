use Rattle.scan_cursors.proofs.Choices.{first_reads, second_reads}
use Rattle.read_words.proofs.then_context.Goals as goal

pub returns-then-next_is_letter : goal.returns-then-next_is_letter
returns-then-next_is_letter c = first_reads c.next_is_letter.ensures c.if-next_is_letter.true c.then_keyword.ensures.reads

pub returns-then-next_is_letter-2 : goal.returns-then-next_is_letter-2
returns-then-next_is_letter-2 c = second_reads c.next_is_letter.ensures c.if-next_is_letter.false
    (first_reads c.next_is_letter-2.ensures c.if-next_is_letter-2.true c.then_keyword-then-next_is_letter-2.ensures.reads)

pub returns-then-next_is_letter-3 : goal.returns-then-next_is_letter-3
returns-then-next_is_letter-3 c = second_reads c.next_is_letter.ensures c.if-next_is_letter.false
    (second_reads c.next_is_letter-2.ensures c.if-next_is_letter-2.false
    (first_reads c.next_is_letter-3.ensures c.if-next_is_letter-3.true c.then_h_word.ensures))

pub returns-then-next_is_letter-4 : goal.returns-then-next_is_letter-4
returns-then-next_is_letter-4 c = second_reads c.next_is_letter.ensures c.if-next_is_letter.false
    (second_reads c.next_is_letter-2.ensures c.if-next_is_letter-2.false
    (second_reads c.next_is_letter-3.ensures c.if-next_is_letter-3.false
    (first_reads c.next_is_letter-4.ensures c.if-next_is_letter-4.true c.then_b_word.ensures)))

pub returns : goal.returns
returns c = second_reads c.next_is_letter.ensures c.if-next_is_letter.false
    (second_reads c.next_is_letter-2.ensures c.if-next_is_letter-2.false
    (second_reads c.next_is_letter-3.ensures c.if-next_is_letter-3.false
    (second_reads c.next_is_letter-4.ensures c.if-next_is_letter-4.false
    (c.then_keyword-2.ensures.reads))))
