use Rattle.definitions.specs.Canonical.{field_text, test_text}
use Rattle.write_bytes.proofs.Putting.{then, told}
use Rattle.write_tests.proofs.put_field_test.Goals as goal

pub returns : goal.returns
unfolding test_text field_text
returns c =
    let value = then c.put_mask-a4.ensures
    (then (told c.operator_keyword.ensures.1 c.put_keyword-a5.ensures)
    (then c.put-a6.ensures c.put_decimal-a7.ensures)) in
    then c.put_word-a1.ensures
    (then (told c.header_field_keyword.ensures.1 c.put_keyword-a2.ensures)
    (then c.put-a3.ensures
    (then value c.put.ensures)))
