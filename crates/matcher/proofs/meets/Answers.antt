-- A well-formed table is never refused by 20, so what the packet's test answers is what all that is due before the fields answers. Then as for the verdict.
use native.Mathlib.Omega.{arith}
use mathlib.Core.Path.{ap, ◌∙◌}
use Rattle.definitions.specs.declared.answers.Answer.{Answer}
use Rattle.definitions.specs.Tables.{table_with}
use Rattle.definitions.specs.Decisions.{is_met}
use Rattle.match_answers.specs.Verdicts.{verdict_of}
use Rattle.match_placements.proofs.CheckedInput.{seen_checked, seen_small}
use Rattle.match_placements.proofs.ByParts.{first_by_parts}
use Rattle.matcher.proofs.Answering.{unmet_refused, verdict_here, formed_header}
use Rattle.matcher.proofs.meets.Goals as goal

pub first_in-a-requires : goal.first_in-a-requires
first_in-a-requires c =
    let x = c.args in
    let r = c.requires in
    let n = seen_small x.p.now x.decoded.now c.packet_header.ensures.answer c.in-Ok.is c.payload_of-payload.ensures.bytes in
    let b = r.bytes in
    record { few = r.few; patterns = r.patterns; stored = r.stored; bytes = omega (arith, b); payload = n.0; decoded = n.1 }

pub returns-in_default : goal.returns-in_default
returns-in_default c =
    let x = c.args in
    λ name len used w.
    let t = table_with name len x.protocol x.flow x.bytes.now used x.items x.count in
    unmet_refused t x.p.now x.decoded.now x.dir x.m _ (c.packet_header.ensures.answer ∙ formed_header t x.p.now x.decoded.now w) c.in_default.not-Ok

pub returns : goal.returns
returns c =
    let x = c.args in
    λ name len used w.
    let t = table_with name len x.protocol x.flow x.bytes.now used x.items x.count in
    let ok = seen_checked t x.p.now x.decoded.now (c.packet_header.ensures.answer ∙ formed_header t x.p.now x.decoded.now w)
    c.in-Ok.is c.payload_of-payload.ensures.bytes in
    let found = c.first_in-a.ensures ∙ first_by_parts t _ c.payload_of-payload.result.now x.decoded.now x.dir x.m in
    c.is_met.ensures
    ∙ ap is_met (c.verdict_of.ensures ∙ ap (λ (y : Answer). verdict_of y.found) found ∙ verdict_here ok x.dir x.m)
