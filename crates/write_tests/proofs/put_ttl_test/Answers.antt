use Rattle.definitions.specs.Canonical.{test_text}
use Rattle.write_bytes.proofs.Putting.{then, told}
use Rattle.write_tests.proofs.put_ttl_test.Goals as goal

pub returns : goal.returns
unfolding test_text
returns c = then c.put_word-a1.ensures
    (then (then (told c.order_keyword.ensures.1 c.put_keyword-a2.ensures) c.put_decimal-a3.ensures) c.put.ensures)
