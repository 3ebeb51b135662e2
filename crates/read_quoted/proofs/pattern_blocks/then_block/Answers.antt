-- The bar and spaces before the pairs and the bar after them store nothing.
use mathlib.Core.Path.{refl}
use Rattle.read_quoted.proofs.Appended.{ready_on, stored_after, stored_before}
use Rattle.read_quoted.proofs.pattern_blocks.then_block.Goals as goal

pub then_pairs-p-requires : goal.then_pairs-p-requires
then_pairs-p-requires c = ready_on refl (ready_on refl c.requires c.then_literal-bar.ensures) c.then_spaces-from.ensures.1

pub returns : goal.returns
returns c =
    let bar = c.then_literal-bar.ensures in
    let gap = c.then_spaces-from.ensures.1 in
    let q = c.then_pairs-p.ensures in
    let pairs = stored_before refl gap.inside q.1 c.then_literal.ensures in
    (q.0, stored_after refl c.requires.inside bar (stored_after refl bar.inside gap pairs))
