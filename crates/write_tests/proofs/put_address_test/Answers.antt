use Rattle.definitions.specs.Canonical.{test_text}
use Rattle.write_bytes.proofs.Putting.{then, told}
use Rattle.write_tests.proofs.put_address_test.Goals as goal

pub returns : goal.returns
unfolding test_text
returns c = then c.put_word-a1.ensures
    (then (told c.side_keyword.ensures.1 c.put_keyword-a2.ensures)
    (then c.put-a3.ensures
    (then (then c.put_if-a4.ensures c.put_bracketed-a5.ensures) c.put.ensures)))
