-- The words, one after the other.
use mathlib.Core.Path.{sym, ◌∙◌}
use Rattle.line_packets.specs.Directions.{is_direction, direction_of, parsed_direction}
use Rattle.line_packets.proofs.directions.parse_direction.Goals as goal

pub returns-then-is_word : goal.returns-then-is_word
unfolding parsed_direction is_direction direction_of
returns-then-is_word c = rw (sym c.is_word.ensures ∙ c.if-is_word.true)

pub returns-then-is_word-2 : goal.returns-then-is_word-2
unfolding parsed_direction is_direction direction_of
returns-then-is_word-2 c = rw (sym c.is_word.ensures ∙ c.if-is_word.false, sym c.is_word-2.ensures ∙ c.if-is_word-2.true)

pub returns : goal.returns
unfolding parsed_direction is_direction direction_of
returns c = rw (sym c.is_word.ensures ∙ c.if-is_word.false, sym c.is_word-2.ensures ∙ c.if-is_word-2.false)
