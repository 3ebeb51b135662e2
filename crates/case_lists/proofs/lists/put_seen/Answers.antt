-- The answer to "first" is written where it is no placement; else the placement, and those after it.
use Rattle.std.specs.Prelude.{Ok}
use mathlib.Core.Path.{◌≡◌, ap, ◌∙◌}
use Rattle.definitions.specs.declared.answers.Found.TheVariants.{Placed, Nothing}
use Rattle.definitions.specs.Fields.{fields_check}
use Rattle.write_bytes.proofs.Putting.{then, told}
use Rattle.search.specs.Searching.{searched_table}
use Rattle.match_placements.specs.Listing.{list_in, first_in_list}
use Rattle.case_lists.proofs.Rest.{list_ordered}
use Rattle.case_lists.proofs.Listing.{first_not, first_one}
use Rattle.case_lists.proofs.lists.put_seen.Goals as goal

pub returns-in-Ok-Placed : goal.returns-in-Ok-Placed
unfolding first_in_list
returns-in-Ok-Placed c =
    let x = c.args in
    let t = searched_table x.protocol x.flow x.items x.count x.bytes.now in
    let w = fields_check x.payload.now x.decoded.now x.m in
    let v = list_ordered t x.header x.payload.now x.decoded.now x.dir x.m in
    let arm = c.in-Ok-Placed in
    let placed : c.first_in-a.result.found ≡ Ok Placed = arm.is ∙ ap Ok (rw arm.is at arm.field-0-is) in
    told (first_one _ v w c.first_in-a.result c.first_in-a.ensures placed)
    (then c.put_placement-next.ensures c.put_after.ensures)

pub returns-in-Ok-Nothing : goal.returns-in-Ok-Nothing
unfolding first_in_list
returns-in-Ok-Nothing c =
    let x = c.args in
    let t = searched_table x.protocol x.flow x.items x.count x.bytes.now in
    let w = fields_check x.payload.now x.decoded.now x.m in
    let l = list_in t x.header x.payload.now x.decoded.now x.dir x.m in
    let arm = c.in-Ok-Nothing in
    let none : c.first_in-a.result.found ≡ Ok Nothing = arm.is ∙ ap Ok (rw arm.is at arm.field-0-is) in
    told (first_not w l c.first_in-a.result c.first_in-a.ensures (λ e. cc) ∙ rw none) c.put_word.ensures

pub returns-in-Err : goal.returns-in-Err
unfolding first_in_list
returns-in-Err c =
    let x = c.args in
    let t = searched_table x.protocol x.flow x.items x.count x.bytes.now in
    let w = fields_check x.payload.now x.decoded.now x.m in
    let l = list_in t x.header x.payload.now x.decoded.now x.dir x.m in
    let refused = c.in-Err.is in
    told (first_not w l c.first_in-a.result c.first_in-a.ensures (λ e. cc) ∙ rw refused) c.put_refused.ensures
