-- The definition is parted as the code parts it (`parted`), and each way is what the callees ensure.
use borrow.Author.Tests.{le-leb}
use Rattle.std.proofs.Common.{rules}
use Rattle.definitions.specs.Limits.{max_byte}
use Rattle.table_well_formed.proofs.Forming.{parted}
use Rattle.table_well_formed.proofs.well_formed.Goals as goal

pub returns-then-items_fit : goal.returns-then-items_fit
returns-then-items_fit c = λ protocol flow h. rw (parted, le-leb protocol max_byte h) (search rules)

pub returns-else-items_fit : goal.returns-else-items_fit
returns-else-items_fit c = λ protocol flow h. rw (parted, le-leb protocol max_byte h) (search rules)
