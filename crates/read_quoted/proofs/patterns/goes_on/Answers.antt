use lib.ListN.{drop}
use mathlib.Core.Path.{sym, ◌∙◌}
use Rattle.scan_cursors.proofs.Choices.{begins_first, begins_second}
use Rattle.definitions.specs.Forms.{plain_bytes}
use mathlib.Core.List.{[], ◌∷◌}
use Rattle.read_quoted.proofs.patterns.goes_on.Goals as goal

pub returns-then-is_plain_at : goal.returns-then-is_plain_at
returns-then-is_plain_at c = c.if-is_plain_at.true ∙ begins_first plain_bytes ((124, 124) ∷ []) (drop c.args.at c.args.s.now) (sym c.is_plain_at.ensures ∙ c.if-is_plain_at.true)

pub returns-else-is_plain_at : goal.returns-else-is_plain_at
returns-else-is_plain_at c =
    let plain = sym c.is_plain_at.ensures ∙ c.if-is_plain_at.false in
    begins_second plain_bytes ((124, 124) ∷ []) (drop c.args.at c.args.s.now) plain c.stands.ensures
