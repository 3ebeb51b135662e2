use Rattle.definitions.specs.Canonical.{modifier_text}
use Rattle.write_bytes.proofs.Putting.{then, told}
use Rattle.write_patterns.proofs.put_within_value.Goals as goal

pub returns : goal.returns
unfolding modifier_text
returns c = then c.put_word-a1.ensures
    (then (then c.put_decimal-a2.ensures (told c.reference_keyword.ensures.1 c.put_keyword-a3.ensures)) c.put.ensures)
