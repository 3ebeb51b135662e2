use mathlib.Core.Path.{◌∙◌}
use lib.ListN.{take}
use Rattle.guard_numbers.proofs.Tests.{some_open}
use Rattle.guard_numbers.proofs.any_open.Goals as goal

pub returns : goal.returns
returns c = c.contains.ensures.value ∙ some_open (take c.args.n c.args.out.now)
