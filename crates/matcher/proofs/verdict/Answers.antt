-- A refusal is the first due of 20 and 30 to 34; else the verdict is what the first by header fields and payload comes to.
use mathlib.Core.Path.{ap, ◌∙◌}
use native.Mathlib.Omega.{arith}
use Rattle.definitions.specs.declared.answers.Answer.{Answer}
use Rattle.match_answers.specs.Verdicts.{verdict_of}
use Rattle.laws.proofs.Numbers.{verdict_told}
use Rattle.match_placements.proofs.CheckedInput.{input_told, seen_checked, searchable}
use Rattle.match_placements.proofs.ByParts.{first_by_parts}
use Rattle.matcher.proofs.Answering.{verdict_refused, verdict_here}
use Rattle.matcher.proofs.verdict.Goals as goal

pub first_in-a-requires : goal.first_in-a-requires
first_in-a-requires c =
    let x = c.args in
    let formed = c.well_formed-formed.ensures x.t.protocol x.t.flow (omega arith) in
    let told = input_told x.t x.p.now x.decoded.now formed c.check_input.ensures in
    let ok = seen_checked x.t x.p.now x.decoded.now told c.in-Ok.is c.payload_of-payload.ensures.bytes in
    searchable ok (omega arith)

pub returns-in-Err : goal.returns-in-Err
returns-in-Err c =
    let x = c.args in
    let formed = c.well_formed-formed.ensures x.t.protocol x.t.flow (omega arith) in
    let told = input_told x.t x.p.now x.decoded.now formed c.check_input.ensures in
    let z = verdict_told x.t x.p.now x.decoded.now x.dir x.m
    (verdict_refused x.t x.p.now x.decoded.now x.dir x.m told c.in-Err.is) in
    record { answer = z.0; numbers = z.1 }

pub returns-in-Ok : goal.returns-in-Ok
returns-in-Ok c =
    let x = c.args in
    let formed = c.well_formed-formed.ensures x.t.protocol x.t.flow (omega arith) in
    let told = input_told x.t x.p.now x.decoded.now formed c.check_input.ensures in
    let ok = seen_checked x.t x.p.now x.decoded.now told c.in-Ok.is c.payload_of-payload.ensures.bytes in
    let found = c.first_in-a.ensures ∙ first_by_parts x.t _ c.payload_of-payload.result.now x.decoded.now x.dir x.m in
    let z = verdict_told x.t x.p.now x.decoded.now x.dir x.m
    (c.verdict_of.ensures ∙ ap (λ (y : Answer). verdict_of y.found) found ∙ verdict_here ok x.dir x.m) in
    record { answer = z.0; numbers = z.1 }
