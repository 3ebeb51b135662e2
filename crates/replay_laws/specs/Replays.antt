-- A REPLAY: what is written for a rule book and a trace. Document 02, T-05.
use Rattle.std.specs.Prelude.{ℕ, Bool, true, false, List, [], ◌++◌, map, if◌then◌else◌, Result, Ok, Err}
use Rattle.forms.specs.Bytes.{text}
use Rattle.definitions.specs.declared.answers.Refusal.{Refusal}
use Rattle.definitions.specs.declared.books.Action.{Action}
use Rattle.definitions.specs.declared.books.Action.TheVariants as action
use Rattle.definitions.specs.declared.books.Decision.{Decision}
use Rattle.definitions.specs.declared.answers.BookRefusal.{BookRefusal}
use Rattle.definitions.specs.Limits.{Limits}
use Rattle.definitions.specs.Lists.{count}
use Rattle.definitions.specs.Canonical.{decimal}
use Rattle.definitions.specs.Lines.{refused_line, line_texts, output_over}
use Rattle.definitions.specs.Books.{Rule, rules_of, judge}
use Rattle.definitions.specs.Decisions.{decided}
use Rattle.replay_laws.specs.Traces.{is_trace_line, trace_record}

-- ---- what is said of a line

-- pass or hold by a rule, 0 if none decides; or the line is bad
pub data Outcome : Type 0 where
  pass : ℕ → Outcome
  hold : ℕ → Outcome
  bad : Outcome

abbrev pub outcome_decided : Action → ℕ → Outcome
outcome_decided action.Pass n = pass n
outcome_decided action.Hold n = hold n

-- by what the rules decide, which is never a refusal: the book was judged before
abbrev pub outcome_by : Result Decision BookRefusal → Outcome
outcome_by (Ok d) = outcome_decided d.action d.rule
outcome_by (Err e) = bad

-- word, tab, deciding rule
abbrev pub outcome_text : Outcome → List ℕ
outcome_text (pass n) = text "pass\t" ++ decimal n
outcome_text (hold n) = text "hold\t" ++ decimal n
outcome_text bad = text "bad\t0"

abbrev pub is_pass : Outcome → Bool
is_pass (pass n) = true
is_pass (hold n) = false
is_pass bad = false

abbrev pub is_hold : Outcome → Bool
is_hold (pass n) = false
is_hold (hold n) = true
is_hold bad = false

abbrev pub is_bad : Outcome → Bool
is_bad (pass n) = false
is_bad (hold n) = false
is_bad bad = true

-- ---- the end: `total`, tab, passes, tab, holds, tab, bad

abbrev pub total_line : ℕ → ℕ → ℕ → List ℕ
total_line passes holds bads =
    text "total\t" ++ (decimal passes ++ (text "\t" ++ (decimal holds ++ (text "\t" ++ (decimal bads ++ text "\n")))))

-- the counts among some outcomes
unfoldable pub total_of : List Outcome → List ℕ
total_of os = total_line (count is_pass os) (count is_hold os) (count is_bad os)

-- ---- the trace, by some rules

module _ (lim : Limits) (rs : List Rule) where
  unfoldable pub outcome : List ℕ → Outcome
  outcome l =
      if is_trace_line l
      then outcome_by (decided lim (trace_record l).packet (trace_record l).decoded (trace_record l).direction (trace_record l).fields rs)
      else bad

  -- what is written for a line, without its number and the LF
  unfoldable pub replay_answer : List ℕ → List ℕ
  replay_answer l = outcome_text (outcome l)

  -- line number, tab, answer, LF for each line, then the total
  unfoldable pub trace_output : List ℕ → List ℕ
  trace_output input = output_over replay_answer input ++ total_of (map outcome (line_texts [] input))

-- ---- the whole

-- `book`, tab, refusal, tab, line
unfoldable pub refused_output : Refusal → ℕ → List ℕ
refused_output r line = text "book\t" ++ (refused_line r line ++ text "\n")

abbrev pub output_if : Result ℕ BookRefusal → Limits → List Rule → List ℕ → List ℕ
output_if (Ok n) lim rs input = trace_output lim rs input
output_if (Err e) lim rs input = refused_output e.refusal e.line

-- ALL THAT IS WRITTEN: the book is judged before the trace is looked at
unfoldable pub replay_output : Limits → List ℕ → List ℕ → List ℕ
replay_output lim book input = output_if (judge lim book) lim (rules_of book) input
