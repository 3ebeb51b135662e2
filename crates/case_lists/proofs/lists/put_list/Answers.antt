-- A refusal is the first due of 20 and 30 to 34; else what is still due and the list go by header fields and payload.
use mathlib.Core.Path.{sym, ◌∙◌}
use native.Mathlib.Omega.{arith}
use Rattle.write_bytes.proofs.Putting.{told}
use Rattle.match_placements.proofs.CheckedInput.{input_told, refused_check, seen_checked, searchable, check_here, list_here}
use Rattle.match_placements.proofs.ByParts.{list_by_parts}
use Rattle.case_lists.proofs.lists.put_list.Goals as goal

pub put_seen-requires : goal.put_seen-requires
put_seen-requires c =
    let x = c.args in
    let formed = c.well_formed-formed.ensures x.t.protocol x.t.flow (omega arith) in
    let told-input = input_told x.t x.p.now x.decoded.now formed c.check_input.ensures in
    let ok = seen_checked x.t x.p.now x.decoded.now told-input c.in-Ok.is c.payload_of-payload.ensures.bytes in
    searchable ok (omega arith)

pub returns-in-Err : goal.returns-in-Err
returns-in-Err c =
    let x = c.args in
    let formed = c.well_formed-formed.ensures x.t.protocol x.t.flow (omega arith) in
    let told-input = input_told x.t x.p.now x.decoded.now formed c.check_input.ensures in
    let check = refused_check x.t x.p.now x.decoded.now told-input c.in-Err.is x.dir x.m in
    told (rw check) c.put_refused.ensures

pub returns-in-Ok : goal.returns-in-Ok
returns-in-Ok c =
    let x = c.args in
    let formed = c.well_formed-formed.ensures x.t.protocol x.t.flow (omega arith) in
    let told-input = input_told x.t x.p.now x.decoded.now formed c.check_input.ensures in
    let ok = seen_checked x.t x.p.now x.decoded.now told-input c.in-Ok.is c.payload_of-payload.ensures.bytes in
    let l = list_here ok x.dir x.m ∙ sym (list_by_parts x.t _ c.payload_of-payload.result.now x.decoded.now x.dir x.m) in
    told (rw (check_here ok x.dir x.m, l)) c.put_seen.ensures
