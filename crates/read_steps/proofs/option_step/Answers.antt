-- The option is unlisted or refused as the definition's is; else it is read, inserted, and the definition goes on after it (`stepped`).
use Rattle.std.specs.Prelude.{Result}
use mathlib.Core.Path.{sym, ap, ◌∙◌, subst}
use native.Mathlib.Omega.{arith}
use Rattle.definitions.specs.declared.answers.TextRefusal.{TextRefusal}
use Rattle.definitions.specs.Options.{listed}
use Rattle.read_value.specs.Values.{PatternBytes, option_value_of}
use Rattle.scan_cursors.specs.Reads.{read_by}
use Rattle.read_insert.proofs.OneMore.{bytes_full}
use Rattle.read_steps.specs.declared.Step.{Step}
use Rattle.read_steps.specs.Stepping.{StepsTo}
use Rattle.read_steps.proofs.Listed.{option_at_lem, name_inside}
use Rattle.read_steps.proofs.OptionSteps.{taken_unlisted, taken_refused, ended_parsed, read_after, stepped, parsed_inside}
use Rattle.read_steps.proofs.option_step.Goals as goal

pub option_named-requires : goal.option_named-requires
option_named-requires c =
    let g = name_inside _ _ c.requires.inside c.name_end-to.ensures in (g.0, g.1)

pub returns-in_default : goal.returns-in_default
returns-in_default c = λ located items held latest K.
    taken_unlisted _ _ _ K
    (option_at_lem _ _ _ _ c.name_end-to.ensures c.option_named.ensures c.in_default.is)

pub option_by_name-p-requires : goal.option_by_name-p-requires
option_by_name-p-requires c =
    let pre = c.requires in
    let g = name_inside _ _ pre.inside c.name_end-to.ensures in
    let u = pre.after in
    let i = pre.inside in
    let l = pre.short in
    (g.1, l, omega (arith, u, g.0), bytes_full pre.holds (omega (arith, u, i, l)))

pub returns-in-Err : goal.returns-in-Err
returns-in-Err c = λ located items held latest K.
    let read = c.option_by_name-p in
    let P = read.ensures in
    let v = option_value_of _ read.result.value P.al P.b in
    let q = sym c.ended_by.ensures ∙ c.in-Err.is in
    let named = c.name_end-to.ensures in
    let i = option_at_lem _ _ _ _ named c.option_named.ensures c.in-Some.is ∙ ap listed (sym P.reads.reads) in
    taken_refused _ _ _ K v read.result.cursor i q

pub returns-in-Ok : goal.returns-in-Ok
unfolding read_after
returns-in-Ok c = λ located items held latest.
    let x = c.args in
    let pre = c.requires in
    let read = c.option_by_name-p in
    let P = read.ensures in
    let q = ended_parsed read.result.cursor (sym c.ended_by.ensures ∙ c.in-Ok.is) in
    let inserts = c.insert_option.ensures in
    let ended = c.name_end-to.ensures in
    let g = name_inside _ _ pre.inside ended in
    let z = parsed_inside x.s.now read.result.cursor _ P.reads.inside q in
    let u = pre.after in
    let w = P.grown _ q in
    let k = read_after located read.result P held latest _ q (omega (arith, u, g.0)) z pre.short in
    let i = option_at_lem _ _ _ _ ended c.option_named.ensures c.in-Some.is
    ∙ ap listed (sym P.reads.reads ∙ ap (read_by (option_value_of _ read.result.value P.al P.b)) q) in
    subst (λ (r : Result Step TextRefusal). StepsTo x.s.now located x.at r read.new.bytes items) (sym inserts.2)
    (stepped _ located _ _ _ _ items _ _ _ P.al P.b (P.apart _ q) held (sym (ap (λ (m : PatternBytes). m.bytes) P.stored)) i z (omega (arith, g.0, w))
    (omega (arith, u, g.0, w)) inserts.0 (inserts.1 k))
