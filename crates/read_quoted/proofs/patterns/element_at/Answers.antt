-- A plain byte is stored as it is, and a block stores its bytes.
use mathlib.Core.Path.{sym, ◌∙◌}
use Rattle.read_quoted.proofs.Bytes.{plain_stored, block_stored}
use Rattle.read_quoted.proofs.patterns.element_at.Goals as goal

pub returns-then-is_plain_at : goal.returns-then-is_plain_at
returns-then-is_plain_at c = plain_stored _ _ _ (sym c.is_plain_at.ensures ∙ c.if-is_plain_at.true) c.put.ensures

pub returns-else-is_plain_at : goal.returns-else-is_plain_at
returns-else-is_plain_at c = block_stored _ _ _ (sym c.is_plain_at.ensures ∙ c.if-is_plain_at.false) c.then_block.ensures
