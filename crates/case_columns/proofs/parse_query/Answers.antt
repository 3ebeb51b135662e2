-- The two words, then the brackets.
use mathlib.Core.Path.{sym, ◌∙◌}
use Rattle.case_columns.proofs.Queries.{query_all, query_first, no_placement, query_next}
use Rattle.case_columns.proofs.parse_query.Goals as goal

pub returns-then-is_word : goal.returns-then-is_word
returns-then-is_word c = query_all _ (sym c.is_word.ensures ∙ c.if-is_word.true)

pub returns-then-is_word-2 : goal.returns-then-is_word-2
returns-then-is_word-2 c = query_first _ (sym c.is_word.ensures ∙ c.if-is_word.false) (sym c.is_word-2.ensures ∙ c.if-is_word-2.true)

pub returns-in_err-placement : goal.returns-in_err-placement
returns-in_err-placement c = c.from_residual.ensures
    ∙ no_placement _ (sym c.is_word.ensures ∙ c.if-is_word.false) (sym c.is_word-2.ensures ∙ c.if-is_word-2.false)
    (sym c.in_err-placement.was ∙ c.parse_next.ensures)

pub returns : goal.returns
returns c = query_next _ (sym c.is_word.ensures ∙ c.if-is_word.false) (sym c.is_word-2.ensures ∙ c.if-is_word-2.false) _
    (sym c.in_ok-placement.was ∙ c.parse_next.ensures)
