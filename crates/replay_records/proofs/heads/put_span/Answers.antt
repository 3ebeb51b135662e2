-- Four zeros, or the two numbers, by the variant.
use mathlib.Core.Path.{ap}
use Rattle.write_bytes.proofs.Putting.{then, told}
use Rattle.replay_records.specs.RecordBytes.{span_bytes}
use Rattle.replay_records.proofs.heads.put_span.Goals as goal

pub returns-in-Some : goal.returns-in-Some
returns-in-Some c = told (ap span_bytes c.in-Some.is) (then c.put_number-next.ensures c.put_number.ensures)
