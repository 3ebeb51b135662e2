-- Where protocol or flow do not hold nothing is listed; else the items' answer over nothing chosen is the outcome.
use Rattle.fields.specs.Seen.{seen}
use Rattle.search.specs.Searching.{searched_table}
use Rattle.search.proofs.Formed.{ready_first, found_first, found_none}
use Rattle.search.proofs.find.Goals as goal

pub returns-then-not-head_holds : goal.returns-then-not-head_holds
returns-then-not-head_holds c =
    let x = c.args in
    found_none (searched_table x.protocol x.flow x.items x.count x.bytes.now) (seen x.header x.payload.now x.decoded.now x.m) x.dir
    x.on_bound x.bound c.head_holds.result c.head_holds.ensures c.if-not-head_holds.true

pub from_item-requires : goal.from_item-requires
from_item-requires c =
    let x = c.args in
    rw c.empty.ensures
    (c.requires.few, ready_first (searched_table x.protocol x.flow x.items x.count x.bytes.now) c.requires)

pub returns : goal.returns
returns c =
    let head = c.head_holds in
    let x = c.args in
    found_first (searched_table x.protocol x.flow x.items x.count x.bytes.now) c.requires
    (seen x.header x.payload.now x.decoded.now x.m) x.dir x.on_bound x.bound
    head.result head.ensures c.if-not-head_holds.false c.from_item.result (rw c.empty.ensures at c.from_item.ensures)
