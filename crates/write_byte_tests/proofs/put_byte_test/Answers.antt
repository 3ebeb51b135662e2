use Rattle.definitions.specs.Canonical.{byte_text, test_text}
use Rattle.write_bytes.proofs.Putting.{then}
use Rattle.write_byte_tests.proofs.put_byte_test.Goals as goal

pub returns : goal.returns
unfolding test_text byte_text
returns c =
    let flags = then c.put_if-a4.ensures c.put_if-a5.ensures in
    then c.put_word-a1.ensures (then (then c.put_comparison-a2.ensures (then c.put_decimal-a3.ensures flags)) c.put.ensures)
