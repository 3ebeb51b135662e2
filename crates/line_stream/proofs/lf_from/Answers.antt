-- A byte that ends no line is one that is not LF, so the first LF is what `find_from` finds.
use Rattle.definitions.specs.Parts.{find}
use Rattle.line_stream.proofs.lf_from.Goals as goal

pub returns : goal.returns
unfolding find
returns c = c.find_from.ensures
