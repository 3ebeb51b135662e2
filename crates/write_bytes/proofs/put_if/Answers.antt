use mathlib.Core.Path.{ap}
use Rattle.definitions.specs.Canonical.{text_if}
use Rattle.write_bytes.proofs.Putting.{none_put, told}
use Rattle.write_bytes.proofs.put_if.Goals as goal

pub returns : goal.returns
returns c = told (ap (λ t. text_if t c.args.w.now) c.if-wanted.false) none_put
