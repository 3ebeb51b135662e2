-- THE ANSWER TO A LINE OF CASES: what is written for it, without its number and the LF. docs/vectors/README.md has it in words; the text of a placement, of
-- the list and of a refusal is in crate case_lists.
use Rattle.std.specs.Prelude.{ℕ, List, ◌++◌, if◌then◌else◌, Result, Ok, Err}
use Rattle.forms.specs.Bytes.{text}
use Rattle.definitions.specs.declared.table.Table.{Table}
use Rattle.definitions.specs.declared.packets.Direction.{Direction}
use Rattle.definitions.specs.declared.packets.FieldMap.{FieldMap}
use Rattle.definitions.specs.declared.answers.Refusal.{Refusal}
use Rattle.definitions.specs.declared.answers.Reading.{Reading}
use Rattle.definitions.specs.declared.answers.TextRefusal.{TextRefusal}
use Rattle.definitions.specs.Limits.{document_limits}
use Rattle.definitions.specs.Refusals.{number_of}
use Rattle.definitions.specs.Reading.{read}
use Rattle.definitions.specs.Canonical.{decimal}
use Rattle.definitions.specs.Answers.{input_check, placements_of, first_answer, next_answer}
use Rattle.case_columns.specs.declared.Query.{Query}
use Rattle.case_columns.specs.declared.Query.TheVariants.{All, First, Next}
use Rattle.case_lists.specs.AnswerTexts.{list_text, check_text, answer_text}
use Rattle.case_lines.specs.CaseLines.{is_case, CaseLine, case_of}

-- a text's refusal with its place
abbrev pub unread_text : Refusal → ℕ → List ℕ
unread_text r place = text "text " ++ (decimal (number_of r) ++ (text " " ++ decimal place))

module _ (p decoded : List ℕ) (dir : Direction) (m : FieldMap) where
  unfoldable pub query_text : Table → Query → List ℕ
  query_text t All = check_text (input_check t p decoded dir m) (list_text (placements_of t p decoded dir m))
  query_text t First = answer_text (first_answer t p decoded dir m)
  query_text t (Next h) = answer_text (next_answer t p decoded dir m h)

  -- the answer for a text's table, or its refusal
  abbrev pub outcome_text : Result Unit TextRefusal → Table → Query → List ℕ
  outcome_text (Ok tt) t a = query_text t a
  outcome_text (Err e) t a = unread_text e.refusal e.place

  abbrev pub reading_text : Reading → Query → List ℕ
  reading_text r a = outcome_text r.outcome r.table a

abbrev pub formed_text : CaseLine → List ℕ
formed_text c = reading_text c.packet c.decoded c.direction c.fields (read document_limits c.source) c.query

unfoldable pub case_answer : List ℕ → List ℕ
case_answer l = if is_case l then formed_text (case_of l) else text "bad"
