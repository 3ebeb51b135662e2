use Rattle.definitions.specs.Canonical.{test_text}
use Rattle.write_bytes.proofs.Putting.{then}
use Rattle.write_tests.proofs.put_at_test.Goals as goal

pub returns : goal.returns
unfolding test_text
returns c = then c.put_word-a1.ensures (then (then c.put_decimal-a2.ensures c.put_if-a3.ensures) c.put.ensures)
