-- The words, one after the other.
use mathlib.Core.Path.{sym, ◌∙◌}
use Rattle.definitions.specs.Books.{is_state, state_of}
use Rattle.book_rules.specs.RuleLines.{parsed_state}
use Rattle.book_rules.proofs.parse_state.Goals as goal

pub returns-then-is_word : goal.returns-then-is_word
unfolding parsed_state is_state state_of
returns-then-is_word c = rw (sym c.is_word.ensures ∙ c.if-is_word.true)

pub returns-then-is_word-2 : goal.returns-then-is_word-2
unfolding parsed_state is_state state_of
returns-then-is_word-2 c = rw (sym c.is_word.ensures ∙ c.if-is_word.false, sym c.is_word-2.ensures ∙ c.if-is_word-2.true)

pub returns : goal.returns
unfolding parsed_state is_state state_of
returns c = rw (sym c.is_word.ensures ∙ c.if-is_word.false, sym c.is_word-2.ensures ∙ c.if-is_word-2.false)
