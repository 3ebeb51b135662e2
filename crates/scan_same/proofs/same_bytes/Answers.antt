-- What the library says of `==`.
use mathlib.Core.Path.{◌∙◌}
use Rattle.scan_same.proofs.SameBytes.{paired}
use Rattle.scan_same.proofs.same_bytes.Goals as goal

pub returns : goal.returns
returns c = c.eq.ensures ∙ paired c.args.s.now c.args.w.now
