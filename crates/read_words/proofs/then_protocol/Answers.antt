use native.Mathlib.Omega.{arith}
use Rattle.scan_cursors.proofs.Choices.{first_reads, second_reads}
use Rattle.read_words.proofs.then_protocol.Goals as goal

pub returns-then-next_is_letter : goal.returns-then-next_is_letter
returns-then-next_is_letter c = (first_reads c.next_is_letter.ensures c.if-next_is_letter.true c.then_keyword.ensures.reads, omega (arith, c.then_keyword.ensures.says))

pub returns-then-next_is_letter-2 : goal.returns-then-next_is_letter-2
returns-then-next_is_letter-2 c = (
  second_reads c.next_is_letter.ensures c.if-next_is_letter.false
      (first_reads c.next_is_letter-2.ensures c.if-next_is_letter-2.true c.then_keyword-then-next_is_letter-2.ensures.reads),
  omega (arith, c.then_keyword-then-next_is_letter-2.ensures.says),
)

pub returns-then-next_is_letter-3 : goal.returns-then-next_is_letter-3
returns-then-next_is_letter-3 c = (
  second_reads c.next_is_letter.ensures c.if-next_is_letter.false
      (second_reads c.next_is_letter-2.ensures c.if-next_is_letter-2.false
      (first_reads c.next_is_letter-3.ensures c.if-next_is_letter-3.true c.then_keyword-then-next_is_letter-3.ensures.reads)),
  omega (arith, c.then_keyword-then-next_is_letter-3.ensures.says),
)

pub returns : goal.returns
returns c = (
  second_reads c.next_is_letter.ensures c.if-next_is_letter.false
      (second_reads c.next_is_letter-2.ensures c.if-next_is_letter-2.false
      (second_reads c.next_is_letter-3.ensures c.if-next_is_letter-3.false
      (c.then_number.ensures.0))),
  c.then_number.ensures.1,
)
