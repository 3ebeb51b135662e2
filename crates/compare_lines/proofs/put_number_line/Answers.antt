-- One after the other.
use Rattle.write_bytes.proofs.Putting.{then}
use Rattle.compare_lines.proofs.put_number_line.Goals as goal

pub returns : goal.returns
returns c = then c.put_word-a1.ensures (then c.put_decimal-a2.ensures c.put.ensures)
