-- The line's length, its four tabs, and then its columns.
use mathlib.Core.Path.{sym, ◌∙◌}
use Rattle.write_bytes.proofs.Putting.{told}
use Rattle.decision_lines.proofs.Columns.{long_line, few_tabs, packet_le, decoded_le, book_le, as-columns}
use Rattle.decision_lines.proofs.answers.answer_decision.Goals as goal

pub returns-then-line-gt-DECISION_BYTES : goal.returns-then-line-gt-DECISION_BYTES
returns-then-line-gt-DECISION_BYTES c = told (long_line _ c.if-line-gt-DECISION_BYTES.true) c.put_word.ensures

pub returns-then-not-contains : goal.returns-then-not-contains
returns-then-not-contains c = told
    (few_tabs _ _ _ _ c.if-line-gt-DECISION_BYTES.false
    c.part_after-r1.ensures c.part_after-r2.ensures c.part_after-r3.ensures
    (sym c.contains.ensures ∙ c.if-not-contains.true))
    c.put_word-then-not-contains.ensures

pub put_columns-requires : goal.put_columns-requires
put_columns-requires c =
    let h = c.if-line-gt-DECISION_BYTES.false in
    let q1 = c.part_after-r1.ensures in
    let q2 = c.part_after-r2.ensures in
    let q3 = c.part_after-r3.ensures in (
      packet_le _ _ _ _ h q1 q2 q3 c.part_before-packet.ensures,
      decoded_le _ _ _ _ h q1 q2 q3 c.part_before-decoded.ensures,
      book_le _ _ _ _ h q1 q2 q3 c.part_after-r4.ensures,
    )

pub returns : goal.returns
returns c = told
    (as-columns _ _ _ _ c.if-line-gt-DECISION_BYTES.false
    c.part_after-r1.ensures c.part_after-r2.ensures c.part_after-r3.ensures
    (sym c.contains.ensures ∙ c.if-not-contains.false)
    c.part_before-origin.ensures c.part_before-packet.ensures
    c.part_before-fields.ensures c.part_before-decoded.ensures
    c.part_after-r4.ensures)
    c.put_columns.ensures
