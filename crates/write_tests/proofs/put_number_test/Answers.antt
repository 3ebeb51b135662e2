use Rattle.definitions.specs.Canonical.{test_text}
use Rattle.write_bytes.proofs.Putting.{then, told}
use Rattle.write_tests.proofs.put_number_test.Goals as goal

pub returns : goal.returns
unfolding test_text
returns c = then c.put_word-a1.ensures
    (then (told c.number_field_keyword.ensures.1 c.put_keyword-a2.ensures)
    (then c.put-a3.ensures
    (then c.put_decimal-a4.ensures c.put.ensures)))
