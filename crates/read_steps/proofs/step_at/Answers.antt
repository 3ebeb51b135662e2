-- Each way on is the definition's from its first byte on: a `)`, an option, or neither.
use mathlib.Core.Path.{sym, ◌∙◌}
use Rattle.read_frame.proofs.Dashes.{dashes_two}
use Rattle.read_steps.proofs.Looping.{goes_close, goes_nowhere, goes_option}
use Rattle.read_steps.proofs.step_at.Goals as goal

pub returns-then-s-at-eq41 : goal.returns-then-s-at-eq41
returns-then-s-at-eq41 c = λ located items held latest after.
    rw c.closing_step.ensures
    (goes_close c.args.s.now c.args.at c.requires.inside located c.args.st c.args.bytes.now items c.if-s-at-eq41.true)

pub option_step-requires : goal.option_step-requires
option_step-requires c =
    let pre = c.requires in
    record {
      located = pre.located;
      items = pre.items;
      holds = pre.holds;
      latest = pre.latest;
      after = pre.after;
      inside = dashes_two _ _ pre.inside (sym c.dashes_at.ensures ∙ c.if-dashes_at.true);
      short = pre.short;
    }

pub returns-then-dashes_at : goal.returns-then-dashes_at
returns-then-dashes_at c = λ located items held latest after.
    let x = c.args in
    let pre = c.requires in
    let stepped = c.option_step in
    let dashed = sym c.dashes_at.ensures ∙ c.if-dashes_at.true in
    goes_option x.s.now x.at pre.inside located x.st x.bytes.now pre.solid c.if-s-at-eq41.false _ items dashed
    stepped.result (stepped.ensures located items held latest)

pub returns : goal.returns
returns c = λ located items held latest after.
    let x = c.args in
    let pre = c.requires in
    let none = sym c.dashes_at.ensures ∙ c.if-dashes_at.false in
    goes_nowhere x.s.now x.at pre.inside located x.st x.bytes.now pre.solid c.if-s-at-eq41.false items none
