use Rattle.read_addresses.proofs.Commas.{bracket_read, single_read}
use Rattle.read_addresses.proofs.addresses.then_addresses.Goals as goal

pub returns-then-next_is : goal.returns-then-next_is
returns-then-next_is c =
    let i = c.requires in
    bracket_read i c.next_is.ensures c.if-next_is.true c.then_literal-open.ensures c.then_list-l.ensures c.then_literal.ensures

pub returns-else-next_is : goal.returns-else-next_is
returns-else-next_is c =
    let i = c.requires in
    single_read i c.next_is.ensures c.if-next_is.false c.then_address-only.ensures c.one_kept.ensures
