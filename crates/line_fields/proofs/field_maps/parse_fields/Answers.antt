-- What is still to come stays the same from turn to turn.
use mathlib.Core.Path.{sym, ◌∙◌}
use native.Mathlib.Omega.{arith}
use Rattle.line_parts.proofs.PartsFrom.{from_start, from_step, from_end}
use Rattle.line_fields.proofs.Fields.{inserting_start, inserting_halt, inserting_on, inserting_out}
use Rattle.line_fields.proofs.field_maps.parse_fields.Goals as goal

pub loop-at-init : goal.loop-at-init
loop-at-init c = inserting_start _ _ _ c.no_fields-m.ensures (sym (from_start 44 c.args.s.now))

pub returns-in_err-m : goal.returns-in_err-m
returns-in_err-m c =
    let step = from_step 44 c.args.s.now c.loop-at.at c.loop-at-test.true _ c.part_before-e.ensures in
    c.from_residual.ensures ∙ inserting_halt _ _ _ c.loop-at.invariant _ _ step _ c.insert_field.ensures c.in_err-m.was

pub loop-at-preserved : goal.loop-at-preserved
loop-at-preserved c =
    let step = from_step 44 c.args.s.now c.loop-at.at c.loop-at-test.true _ c.part_before-e.ensures in
    inserting_on _ _ _ c.loop-at.invariant _ _ step _ c.insert_field.ensures _ c.in_ok-m.was

pub returns : goal.returns
returns c = inserting_out _ _ _ c.loop-at.invariant (from_end 44 c.args.s.now c.loop-at.at (omega arith))
