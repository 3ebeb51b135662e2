-- One after the other.
use Rattle.write_bytes.proofs.Putting.{then}
use Rattle.line_refusals.proofs.put_refused_book.Goals as goal

pub returns : goal.returns
returns c = then c.put_word-a1.ensures (then c.put_refused-a2.ensures c.put.ensures)
