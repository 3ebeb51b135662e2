-- A refusal is the first due of 20 and 30 to 34; else the next goes by header fields and payload.
use mathlib.Core.Path.{◌∙◌}
use native.Mathlib.Omega.{arith}
use Rattle.laws.proofs.Numbers.{next_told}
use Rattle.match_placements.proofs.CheckedInput.{input_told, seen_checked, searchable}
use Rattle.match_placements.proofs.ByParts.{next_by_parts}
use Rattle.matcher.proofs.Answering.{next_refused, next_here}
use Rattle.matcher.proofs.next.Goals as goal

pub next_in-requires : goal.next_in-requires
next_in-requires c =
    let x = c.args in
    let formed = c.well_formed-formed.ensures x.t.protocol x.t.flow (omega arith) in
    let told = input_told x.t x.p.now x.decoded.now formed c.check_input.ensures in
    let ok = seen_checked x.t x.p.now x.decoded.now told c.in-Ok.is c.payload_of-payload.ensures.bytes in
    searchable ok (omega arith)

pub returns-in-Err : goal.returns-in-Err
returns-in-Err c =
    let x = c.args in
    let formed = c.well_formed-formed.ensures x.t.protocol x.t.flow (omega arith) in
    let told = input_told x.t x.p.now x.decoded.now formed c.check_input.ensures in
    let z = next_told x.t x.p.now x.decoded.now x.dir x.m x.held
    (next_refused x.t x.p.now x.decoded.now x.dir x.m told c.in-Err.is x.held c.refused.ensures) in
    record { answer = z.0; numbers = z.1 }

pub returns-in-Ok : goal.returns-in-Ok
returns-in-Ok c =
    let x = c.args in
    let formed = c.well_formed-formed.ensures x.t.protocol x.t.flow (omega arith) in
    let told = input_told x.t x.p.now x.decoded.now formed c.check_input.ensures in
    let ok = seen_checked x.t x.p.now x.decoded.now told c.in-Ok.is c.payload_of-payload.ensures.bytes in
    let found = c.next_in.ensures ∙ next_by_parts x.t _ c.payload_of-payload.result.now x.decoded.now x.dir x.m x.held in
    let z = next_told x.t x.p.now x.decoded.now x.dir x.m x.held (found ∙ next_here ok x.dir x.m x.held) in
    record { answer = z.0; numbers = z.1 }
