-- The field of the name, then its span.
use mathlib.Core.Path.{sym, ◌∙◌}
use Rattle.line_fields.proofs.Fields.{given_already, no_span_there, one_field}
use Rattle.line_fields.proofs.field_maps.insert_field.Goals as goal

pub returns-then-is_present : goal.returns-then-is_present
returns-then-is_present c = given_already _ _ _ c.part_before.ensures _ c.field_named-field.ensures (sym c.is_present.ensures ∙ c.if-is_present.true)

pub returns-in_err-span : goal.returns-in_err-span
returns-in_err-span c = c.from_residual.ensures
    ∙ no_span_there _ _ _ c.part_before.ensures _ c.field_named-field.ensures (sym c.is_present.ensures ∙ c.if-is_present.false)
    _ c.part_after.ensures _ c.parse_span.ensures c.in_err-span.was

pub returns : goal.returns
returns c = one_field _ _ _ c.part_before.ensures _ c.field_named-field.ensures (sym c.is_present.ensures ∙ c.if-is_present.false)
    _ c.part_after.ensures _ c.parse_span.ensures _ c.in_ok-span.was _ c.with_field.ensures
