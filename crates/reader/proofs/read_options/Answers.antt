-- What reading a text comes to is what is still to come from the loop's place on: the front says so at the start, spaces are passed, each step is the
-- definition's, and at the last `)` the judgement is.
use Rattle.std.specs.Prelude.{Option, Result, Ok, Err}
use Rattle.std.proofs.lemmas.Result.{err_from_is_err_and}
use mathlib.Core.Path.{◌≡◌, refl, sym, ap, ◌∙◌, subst}
use mathlib.Core.List.{List, []}
use Prim.Native.Nat.{ℕ}
use native.Mathlib.Omega.{arith}
use Rattle.definitions.specs.Limits.{document_limits}
use Rattle.definitions.specs.declared.answers.TextRefusal.{TextRefusal}
use Rattle.definitions.specs.Reading.{finished, accepted_reading}
use Rattle.read_state.specs.declared.State.{State}
use Rattle.read_state.specs.declared.PlacedSlot.{PlacedSlot}
use Rattle.read_state.specs.State.{put_in, Inside}
use Rattle.read_insert.specs.Checking.{table_in}
use Rattle.read_insert.proofs.OneMore.{sound}
use Rattle.read_steps.proofs.OptionSteps.{fresh_holds}
use Rattle.read_steps.proofs.Looping.{goes_space, goes_told, loop_out}
use Rattle.reader.specs.Stored.{StoresOptions}
use Rattle.reader.proofs.read_options.Goals as goal
use Rattle.reader.proofs.read_options.Goals.{in-Some, in_default}

pub loop-at-init : goal.loop-at-init
loop-at-init c =
    let x = c.args in
    let front = c.requires.opened in
    let f = fresh_holds x.s.now c.fresh-st.result x.bytes.now x.items.now c.fresh-st.ensures c.requires.no_bytes c.requires.no_items in
    ([], f.0, (let z = f.1 in omega arith), front.1, front.2, front.0)

pub loop-at-preserved-then-s-at-eq32 : goal.loop-at-preserved-then-s-at-eq32
loop-at-preserved-then-s-at-eq32 c =
    let l = c.loop-at in
    let i = l.invariant in
    let g = goes_space _ _ c.loop-at-test.true i.0 l.st l.bytes i.1 i.2 c.if-s-at-eq32.true in
    (g.0, g.2, g.4, g.6, i.4, i.5 ∙ ap (finished document_limits.room _) g.1)

pub offset_bounds-items-st : goal.offset_bounds-items-st
offset_bounds-items-st c = let h = (sound c.loop-at.invariant.1).last in omega arith

pub bounds-items-st : goal.bounds-items-st
bounds-items-st c = (sound c.loop-at.invariant.1).last

pub returns-in_err-next : goal.returns-in_err-next
returns-in_err-next c =
    let l = c.loop-at in
    let i = l.invariant in
    let t = c.step_at in
    let p = err_from_is_err_and c.from_residual.result c.from_residual.ensures.1 in
    let told = c.in_err-next.was ∙ ap Err (sym p.2) in
    let g = goes_told _ l.bytes l.st _ l.at t.new.bytes t.result t.ensures _ told i.0 l.items i.1 refl i.2 in
    subst (λ (r : Result State TextRefusal). StoresOptions c.args.s.now t.new.bytes l.items r) (sym p.1) (i.5 ∙ ap (finished document_limits.room _) g)

pub offset_bounds-items-put : goal.offset_bounds-items-put
offset_bounds-items-put c =
    let l = c.loop-at in
    let i = l.invariant in
    let t = c.step_at in
    let told = c.in_ok-next.was ∙ ap Ok c.in-Next.is in
    let g = goes_told _ l.bytes l.st _ l.at t.new.bytes t.result t.ensures _ told i.0 l.items i.1 refl i.2 in
    let h = subst (λ (p : Option PlacedSlot). Inside p) c.in-Some.is g.3 in omega arith

pub bounds-items-put : goal.bounds-items-put
bounds-items-put c =
    let l = c.loop-at in
    let i = l.invariant in
    let t = c.step_at in
    let told = c.in_ok-next.was ∙ ap Ok c.in-Next.is in
    let g = goes_told _ l.bytes l.st _ l.at t.new.bytes t.result t.ensures _ told i.0 l.items i.1 refl i.2 in
    subst (λ (p : Option PlacedSlot). Inside p) c.in-Some.is g.3

pub loop-at-smaller : goal.loop-at-smaller
loop-at-smaller c =
    let l = c.loop-at in
    let i = l.invariant in
    let t = c.step_at in
    let told = c.in_ok-next.was ∙ ap Ok c.in-Next.is in
    let g = goes_told _ l.bytes l.st _ l.at t.new.bytes t.result t.ensures _ told i.0 l.items i.1 refl i.2 in
    let a = g.5 in
    let b = g.6 in
    omega arith

pub loop-at-preserved : goal.loop-at-preserved
loop-at-preserved c =
    let l = c.loop-at in
    let i = l.invariant in
    let t = c.step_at in
    let told = c.in_ok-next.was ∙ ap Ok c.in-Next.is in
    let g = goes_told _ l.bytes l.st _ l.at t.new.bytes t.result t.ensures _ told i.0 l.items i.1 refl i.2 in
    let put : c.match-inserted.items ≡ put_in l.items c.in-Next.inserted.put =
    elim c.match-inserted.branch [
      | in-Some w ↦ w.items-is ∙ ap (put_in l.items) (sym w.in-Some.is)
      | in_default w ↦ w.items-is ∙ ap (put_in l.items) (sym w.in_default.is)
    ] in
    (g.0, rw put g.2, g.4, g.6, i.4, i.5 ∙ ap (finished document_limits.room _) g.1)

pub finish-requires : goal.finish-requires
finish-requires c = sound c.loop-at.invariant.1

pub returns-in_err-finish-in-Done : goal.returns-in_err-finish-in-Done
returns-in_err-finish-in-Done c =
    let l = c.loop-at in
    let i = l.invariant in
    let t = c.step_at in
    let told = c.in_ok-next.was ∙ ap Ok c.in-Done.is in
    let g = goes_told _ l.bytes l.st _ l.at t.new.bytes t.result t.ensures _ told i.0 l.items i.1 refl i.2 in
    let p = err_from_is_err_and c.from_residual-in_err-finish-in-Done.result c.from_residual-in_err-finish-in-Done.ensures.1 in
    let refused = c.in_err-finish-in-Done.was ∙ ap Err (sym p.2) in
    let judged = rw refused at (c.finish.ensures _ l.bytes i.0 refl i.1) in
    subst (λ (r : Result State TextRefusal). StoresOptions c.args.s.now t.new.bytes l.items r) (sym p.1)
    (i.5 ∙ ap (finished document_limits.room _) g.0 ∙ sym judged)

pub returns-in-Done : goal.returns-in-Done
returns-in-Done c =
    let l = c.loop-at in
    let i = l.invariant in
    let t = c.step_at in
    let told = c.in_ok-next.was ∙ ap Ok c.in-Done.is in
    let g = goes_told _ l.bytes l.st _ l.at t.new.bytes t.result t.ensures _ told i.0 l.items i.1 refl i.2 in
    let passed = c.in_ok-finish-in-Done.was in
    let judged = rw passed at (c.finish.ensures _ l.bytes i.0 refl i.1) in
    let stored = ap (λ (b : List ℕ). accepted_reading (table_in c.args.s.now l.st b l.items)) (sym g.1) in
    (i.5 ∙ ap (finished document_limits.room _) g.0 ∙ sym judged ∙ stored, i.1.named.short, i.1.named.inside)

pub returns : goal.returns
returns c =
    let l = c.loop-at in
    let i = l.invariant in
    i.5 ∙ ap (finished document_limits.room _) (loop_out _ l.at i.0 c.loop-at-test.false)
