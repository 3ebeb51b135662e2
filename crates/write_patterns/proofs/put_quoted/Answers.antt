use Rattle.definitions.specs.Canonical.{option_text}
use Rattle.write_bytes.proofs.Putting.{then}
use Rattle.write_patterns.proofs.put_quoted.Goals as goal

pub returns : goal.returns
unfolding option_text
returns c = then c.put_word-a1.ensures
    (then (then c.put_if-a2.ensures
    (then c.put-a3.ensures
    (then c.put_bytes-a4.ensures c.put-a5.ensures))) c.put.ensures)
