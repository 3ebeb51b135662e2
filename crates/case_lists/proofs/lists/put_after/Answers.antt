-- What is after the placement written last is what is still to be written.
use Rattle.search.specs.Searching.{searched_table}
use Rattle.case_lists.proofs.Rest.{list_ordered}
use Rattle.case_lists.proofs.Listing.{left_none, left_on, left_over}
use Rattle.case_lists.proofs.lists.put_after.Goals as goal

pub returns-in_default : goal.returns-in_default
returns-in_default c =
    let x = c.args in
    let t = searched_table x.protocol x.flow x.items x.count x.bytes.now in
    let v = list_ordered t x.header x.payload.now x.decoded.now x.dir x.m in
    left_none _ v _ _ _ _ _ _ _ c.loop.invariant c.find.ensures c.in_default.not-Some

pub loop-preserved : goal.loop-preserved
loop-preserved c =
    let x = c.args in
    let t = searched_table x.protocol x.flow x.items x.count x.bytes.now in
    let v = list_ordered t x.header x.payload.now x.decoded.now x.dir x.m in
    left_on _ v _ _ _ _ _ _ _ c.loop.invariant c.find.ensures c.loop-test.true c.in-Some.is
    c.put-next.ensures c.put_placement-next.ensures

pub returns-in-Some-more : goal.returns-in-Some-more
returns-in-Some-more c =
    let x = c.args in
    let t = searched_table x.protocol x.flow x.items x.count x.bytes.now in
    let v = list_ordered t x.header x.payload.now x.decoded.now x.dir x.m in
    left_over _ v _ _ _ _ _ _ _ c.loop.invariant c.find-more.ensures c.loop-test.false c.in-Some-more.is c.put_word.ensures

pub returns-in-None : goal.returns-in-None
returns-in-None c =
    let x = c.args in
    let t = searched_table x.protocol x.flow x.items x.count x.bytes.now in
    let v = list_ordered t x.header x.payload.now x.decoded.now x.dir x.m in
    left_none _ v _ _ _ _ _ _ _ c.loop.invariant c.find-more.ensures (λ h e. cc)
