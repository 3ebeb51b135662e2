use mathlib.Core.Path.{sym, ap}
use Rattle.definitions.specs.Canonical.{decimal, comparison_text}
use Rattle.write_bytes.proofs.Putting.{then, told}
use Rattle.write_byte_tests.proofs.put_comparison.Goals as goal

pub returns : goal.returns
unfolding comparison_text
returns c = then (told (ap decimal (sym c.byte_count.ensures)) c.put_decimal-a1.ensures)
    (then c.put-a2.ensures
    (then (told c.byte_operator_keyword.ensures.1 c.put_keyword-a3.ensures)
    (then c.put-a4.ensures
    (then c.put_decimal-a5.ensures c.put.ensures))))
