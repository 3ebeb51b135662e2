-- A refusal is the first due of 20 and 30 to 34; else the first goes by header fields and payload.
use mathlib.Core.Path.{◌∙◌}
use native.Mathlib.Omega.{arith}
use Rattle.laws.proofs.Numbers.{first_told}
use Rattle.match_placements.proofs.CheckedInput.{input_told, seen_checked, searchable}
use Rattle.match_placements.proofs.ByParts.{first_by_parts}
use Rattle.matcher.proofs.Answering.{first_refused, first_here}
use Rattle.matcher.proofs.first.Goals as goal

pub first_in-requires : goal.first_in-requires
first_in-requires c =
    let x = c.args in
    let formed = c.well_formed-formed.ensures x.t.protocol x.t.flow (omega arith) in
    let told = input_told x.t x.p.now x.decoded.now formed c.check_input.ensures in
    let ok = seen_checked x.t x.p.now x.decoded.now told c.in-Ok.is c.payload_of-payload.ensures.bytes in
    searchable ok (omega arith)

pub returns-in-Err : goal.returns-in-Err
returns-in-Err c =
    let x = c.args in
    let formed = c.well_formed-formed.ensures x.t.protocol x.t.flow (omega arith) in
    let told = input_told x.t x.p.now x.decoded.now formed c.check_input.ensures in
    let z = first_told x.t x.p.now x.decoded.now x.dir x.m
    (first_refused x.t x.p.now x.decoded.now x.dir x.m told c.in-Err.is c.refused.ensures) in
    record { answer = z.0; numbers = z.1 }

pub returns-in-Ok : goal.returns-in-Ok
returns-in-Ok c =
    let x = c.args in
    let formed = c.well_formed-formed.ensures x.t.protocol x.t.flow (omega arith) in
    let told = input_told x.t x.p.now x.decoded.now formed c.check_input.ensures in
    let ok = seen_checked x.t x.p.now x.decoded.now told c.in-Ok.is c.payload_of-payload.ensures.bytes in
    let found = c.first_in.ensures ∙ first_by_parts x.t _ c.payload_of-payload.result.now x.decoded.now x.dir x.m in
    let z = first_told x.t x.p.now x.decoded.now x.dir x.m (found ∙ first_here ok x.dir x.m) in
    record { answer = z.0; numbers = z.1 }
