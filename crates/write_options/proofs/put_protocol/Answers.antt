use Rattle.definitions.specs.Canonical.{option_text}
use Rattle.write_bytes.proofs.Putting.{then}
use Rattle.write_options.proofs.put_protocol.Goals as goal

pub returns : goal.returns
unfolding option_text
returns c = then c.put_word-a1.ensures (then c.put_decimal-a2.ensures c.put.ensures)
