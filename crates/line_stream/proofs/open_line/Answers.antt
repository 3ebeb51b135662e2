use Rattle.write_bytes.proofs.Putting.{then}
use Rattle.line_stream.proofs.open_line.Goals as goal

pub returns : goal.returns
returns c = then c.put_decimal-next.ensures c.put.ensures
