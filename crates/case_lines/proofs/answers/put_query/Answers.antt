use mathlib.Core.Path.{sym, ap, ◌∙◌}
use Rattle.write_bytes.proofs.Putting.{told}
use Rattle.case_lists.specs.AnswerTexts.{answer_text}
use Rattle.case_lines.specs.CaseAnswers.{query_text}
use Rattle.case_lines.proofs.Queries.{queried}
use Rattle.case_lines.proofs.answers.put_query.Goals as goal

pub returns-in-All : goal.returns-in-All
unfolding query_text
returns-in-All c = told (queried _ _ _ _ _ c.in-All.is) c.put_list.ensures

pub returns-in-First : goal.returns-in-First
unfolding query_text
returns-in-First c = told
    (queried _ _ _ _ _ c.in-First.is ∙ ap answer_text (sym c.first.ensures.answer))
    c.put_answer.ensures

pub returns-in-Next : goal.returns-in-Next
unfolding query_text
returns-in-Next c = told
    (queried _ _ _ _ _ c.in-Next.is ∙ ap answer_text (sym c.next.ensures.answer))
    c.put_answer-in-Next.ensures
