use Rattle.definitions.specs.Parts.{contains}
use Rattle.line_parts.proofs.contains.Goals as goal

pub returns : goal.returns
unfolding contains
returns c = rw c.find.ensures
