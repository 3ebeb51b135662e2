-- Refusal 35 where the test of the fields says so; then the count held is compared with the number of positive patterns; then the search has the
-- first of the list after the starts held.
use Rattle.definitions.specs.Placements.{items_of}
use Rattle.search.specs.Searching.{searched_table}
use Rattle.match_placements.proofs.Answering.{next_refused, next-found, next-uncounted}
use Rattle.match_placements.proofs.next_in.Goals as goal

pub returns-in-Err : goal.returns-in-Err
returns-in-Err c =
    let x = c.args in
    let t = searched_table x.protocol x.flow x.items x.count x.bytes.now in
    next_refused t x.header x.payload.now x.decoded.now x.dir x.m c.fields_check.ensures.answer c.in-Err.is
    c.refused.ensures x.held

pub returns-then-held-positive_count : goal.returns-then-held-positive_count
unfolding items_of
returns-then-held-positive_count c =
    let x = c.args in
    let t = searched_table x.protocol x.flow x.items x.count x.bytes.now in
    next-uncounted t x.header x.payload.now x.decoded.now x.dir x.m c.fields_check.ensures.answer c.in_default.is
    x.held (c.positive_count.ensures x.bytes.now) c.if-held-positive_count.true c.refused-then-held-positive_count.ensures

pub returns : goal.returns
unfolding items_of
returns c =
    let x = c.args in
    let t = searched_table x.protocol x.flow x.items x.count x.bytes.now in
    next-found t x.header x.payload.now x.decoded.now x.dir x.m c.fields_check.ensures.answer c.in_default.is
    x.held (c.positive_count.ensures x.bytes.now) c.if-held-positive_count.false c.find.ensures c.answered.ensures
