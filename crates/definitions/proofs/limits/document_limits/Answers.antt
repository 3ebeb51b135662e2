-- By computing: the table of options is counted, every other limit is the constant.
use Rattle.std.proofs.Common.{refl}
use Rattle.definitions.specs.Options.{option_table}
use Rattle.definitions.proofs.limits.document_limits.Goals as goal

pub returns : goal.returns
unfolding option_table
returns c = refl
