-- Refusal 35 where the test of the fields says so; else the search has the first of the list.
use lib.ListN.{replicate}
use Rattle.definitions.specs.Limits.{max_patterns}
use Rattle.definitions.specs.Starts.{start_at}
use Rattle.search.specs.Searching.{searched_table}
use Rattle.match_placements.proofs.Answering.{first_refused, first_found}
use Rattle.match_placements.proofs.first_in.Goals as goal

pub returns-in-Err : goal.returns-in-Err
returns-in-Err c =
    let x = c.args in
    let t = searched_table x.protocol x.flow x.items x.count x.bytes.now in
    first_refused t x.header x.payload.now x.decoded.now x.dir x.m c.fields_check.ensures.answer c.in-Err.is
    c.refused.ensures

pub returns : goal.returns
returns c =
    let x = c.args in
    let t = searched_table x.protocol x.flow x.items x.count x.bytes.now in
    first_found t x.header x.payload.now x.decoded.now x.dir x.m c.fields_check.ensures.answer c.in_default.is
    (replicate max_patterns (start_at 0)) c.find.ensures c.answered.ensures
