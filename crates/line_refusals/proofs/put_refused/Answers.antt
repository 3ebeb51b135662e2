-- The number, the tab and the place, one after the other.
use mathlib.Core.Path.{sym, ap}
use Rattle.definitions.specs.Canonical.{decimal}
use Rattle.write_bytes.proofs.Putting.{then, told}
use Rattle.line_refusals.proofs.put_refused.Goals as goal

pub returns : goal.returns
returns c = then (told (ap decimal (sym c.number_of.ensures)) c.put_decimal-a1.ensures) (then c.put-a2.ensures c.put_decimal.ensures)
