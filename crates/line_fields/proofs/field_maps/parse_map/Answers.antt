-- `-`, or the fields.
use mathlib.Core.Path.{sym, ◌∙◌}
use Rattle.line_fields.proofs.Fields.{no_map, some_map}
use Rattle.line_fields.proofs.field_maps.parse_map.Goals as goal

pub returns-then-is_word : goal.returns-then-is_word
returns-then-is_word c = no_map _ (sym c.is_word.ensures ∙ c.if-is_word.true) _ c.no_fields.ensures

pub returns : goal.returns
returns c = some_map _ (sym c.is_word.ensures ∙ c.if-is_word.false) _ c.parse_fields.ensures
