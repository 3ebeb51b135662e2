-- The number before the `+`, then the one after it.
use mathlib.Core.Path.{◌∙◌}
use Rattle.line_fields.proofs.Spans.{no_start, no_length, one_span}
use Rattle.line_fields.proofs.field_maps.parse_span.Goals as goal

pub returns-in_err-start : goal.returns-in_err-start
returns-in_err-start c = c.from_residual.ensures ∙ no_start _ _ c.part_before.ensures _ c.parse_decimal.ensures c.in_err-start.was

pub returns-in_err-len : goal.returns-in_err-len
returns-in_err-len c = c.from_residual-in_err-len.ensures
    ∙ no_length _ _ c.part_before.ensures _ c.parse_decimal.ensures _ c.in_ok-start.was
    _ c.part_after.ensures _ c.parse_decimal-2.ensures c.in_err-len.was

pub returns : goal.returns
returns c = one_span _ _ c.part_before.ensures _ c.parse_decimal.ensures _ c.in_ok-start.was
    _ c.part_after.ensures _ c.parse_decimal-2.ensures _ c.in_ok-len.was
