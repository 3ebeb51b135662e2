-- The library compares the front with `F-SBID(`.
use mathlib.Core.Path.{◌∙◌}
use lib.ListN.{take}
use Rattle.definitions.specs.Options.{opening}
use Rattle.read_frame.proofs.Fronts.{same_front}
use Rattle.read_frame.proofs.is_opened.Goals as goal

pub returns : goal.returns
returns c = c.starts_with.ensures.value ∙ same_front opening (take 7 c.args.s.now)
