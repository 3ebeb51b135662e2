-- The line's length, its five tabs, and then its columns.
use mathlib.Core.Path.{sym, ◌∙◌}
use Rattle.write_bytes.proofs.Putting.{told}
use Rattle.case_lines.proofs.Columns.{long_line, few_tabs, packet_le, decoded_le, as-columns}
use Rattle.case_lines.proofs.answers.answer_case.Goals as goal

pub returns-then-line-gt-CASE_BYTES : goal.returns-then-line-gt-CASE_BYTES
returns-then-line-gt-CASE_BYTES c = told (long_line _ c.if-line-gt-CASE_BYTES.true) c.put_word.ensures

pub returns-then-not-contains : goal.returns-then-not-contains
returns-then-not-contains c = told
    (few_tabs _ _ _ _ _ c.if-line-gt-CASE_BYTES.false c.part_after-r1.ensures
    c.part_after-r2.ensures c.part_after-r3.ensures c.part_after-r4.ensures
    (sym c.contains.ensures ∙ c.if-not-contains.true))
    c.put_word-then-not-contains.ensures

pub put_columns-requires : goal.put_columns-requires
put_columns-requires c = (
  packet_le _ _ _ _ _ c.if-line-gt-CASE_BYTES.false c.part_after-r1.ensures
      c.part_after-r2.ensures c.part_after-r3.ensures c.part_after-r4.ensures
      _ c.part_before-packet.ensures,
  decoded_le _ _ _ _ _ c.if-line-gt-CASE_BYTES.false c.part_after-r1.ensures
      c.part_after-r2.ensures c.part_after-r3.ensures c.part_after-r4.ensures
      _ c.part_before-decoded.ensures,
)

pub returns : goal.returns
returns c = told
    (as-columns _ _ _ _ _ c.if-line-gt-CASE_BYTES.false c.part_after-r1.ensures
    c.part_after-r2.ensures c.part_after-r3.ensures c.part_after-r4.ensures
    (sym c.contains.ensures ∙ c.if-not-contains.false) _ _ _ _ _ _
    c.part_before-origin.ensures c.part_before-packet.ensures
    c.part_before-fields.ensures
    c.part_before-decoded.ensures c.part_before-query.ensures c.part_after-r5.ensures)
    c.put_columns.ensures
