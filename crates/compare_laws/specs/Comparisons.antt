-- WHAT CHANGED BETWEEN TWO RULE BOOKS: what is written for them. Document 02, T-10.
use Rattle.std.specs.Prelude.{ℕ, Bool, true, false, not, List, [], ◌∷◌, ◌++◌, map, ltb, if◌then◌else◌, Result, Ok, Err}
use Rattle.forms.specs.Bytes.{text}
use Rattle.definitions.specs.declared.table.Table.{Table}
use Rattle.definitions.specs.declared.answers.Refusal.{Refusal}
use Rattle.definitions.specs.declared.books.State.{State}
use Rattle.definitions.specs.declared.books.State.TheVariants as state
use Rattle.definitions.specs.declared.books.Action.{Action}
use Rattle.definitions.specs.declared.books.Action.TheVariants as action
use Rattle.definitions.specs.declared.answers.BookRefusal.{BookRefusal}
use Rattle.definitions.specs.Limits.{Limits}
use Rattle.definitions.specs.Reading.{read}
use Rattle.definitions.specs.Canonical.{decimal}
use Rattle.definitions.specs.Lines.{refused_line}
use Rattle.definitions.specs.Books.{Rule, rules_of, judge}
use Rattle.table_equality.specs.SameTables.{same_table}

-- ---- a rule with the table of its text in the place of the text

pub record ReadRule : Type 0 where
  pub number : ℕ
  pub state : State
  pub action : Action
  pub table : Table

unfoldable pub read_rule : Limits → Rule → ReadRule
read_rule lim r = record { number = r.number; state = r.state; action = r.action; table = (read lim r.source).table }

unfoldable pub read_rules : Limits → List ℕ → List ReadRule
read_rules lim book = map (read_rule lim) (rules_of book)

-- ---- what differs between two rules of one number: those of `state`, `action`, `text`, in this order

abbrev pub same_state : State → State → Bool
same_state state.On state.On = true
same_state state.On state.Off = false
same_state state.Off state.On = false
same_state state.Off state.Off = true

abbrev pub same_action : Action → Action → Bool
same_action action.Pass action.Pass = true
same_action action.Pass action.Hold = false
same_action action.Hold action.Pass = false
same_action action.Hold action.Hold = true

abbrev pub word_if : Bool → List ℕ → List (List ℕ)
word_if b w = if b then w ∷ [] else []

abbrev pub differing : Bool → Bool → Bool → List (List ℕ)
differing ofState ofAction ofText = word_if ofState (text "state") ++ (word_if ofAction (text "action") ++ word_if ofText (text "text"))

-- texts differ exactly if their tables differ
unfoldable pub differences : ReadRule → ReadRule → List (List ℕ)
differences a b = differing (not (same_state a.state b.state)) (not (same_action a.action b.action)) (not (same_table a.table b.table))

-- ---- the lines

-- a word with its tab, and a rule's number
abbrev pub number_line : List ℕ → ℕ → List ℕ
number_line word n = word ++ (decimal n ++ text "\n")

abbrev pub old_line : ReadRule → List ℕ
old_line a = number_line (text "old\t") a.number

abbrev pub new_line : ReadRule → List ℕ
new_line b = number_line (text "new\t") b.number

-- parted by commas
abbrev pub commas : List (List ℕ) → List ℕ
commas [] = []
commas (w ∷ []) = w
commas (w ∷ v ∷ ws) = w ++ (text "," ++ commas (v ∷ ws))

-- rules alike in all three give no line
abbrev pub changed_line : ℕ → List (List ℕ) → List ℕ
changed_line n [] = []
changed_line n (w ∷ ws) = text "changed\t" ++ (decimal n ++ (text "\t" ++ (commas (w ∷ ws) ++ text "\n")))

unfoldable pub both_line : ReadRule → ReadRule → List ℕ
both_line a b = changed_line a.number (differences a b)

-- ---- two lists of rules, by rising number: a rule of the lower number is in its own list only

unfoldable pub new_lines : List ReadRule → List ℕ
new_lines [] = []
new_lines (b ∷ ys) = new_line b ++ new_lines ys

-- the first list begins with a; `rest` is what is written for the rules after it and some rules of the second
unfoldable pub merged_by : ReadRule → (List ReadRule → List ℕ) → List ReadRule → List ℕ
merged_by a rest [] = old_line a ++ rest []
merged_by a rest (b ∷ ys) =
    if ltb a.number b.number
    then old_line a ++ rest (b ∷ ys)
    else if ltb b.number a.number then new_line b ++ merged_by a rest ys else both_line a b ++ rest ys

unfoldable pub rules_output : List ReadRule → List ReadRule → List ℕ
rules_output [] ys = new_lines ys
rules_output (a ∷ xs) ys = merged_by a (rules_output xs) ys

-- ---- the whole

-- `first` or `second` with its tab, refusal, tab, line
unfoldable pub refused_output : List ℕ → Refusal → ℕ → List ℕ
refused_output which r line = which ++ (refused_line r line ++ text "\n")

-- the first book's refusal, else the second's
abbrev pub output_if : Result ℕ BookRefusal → Result ℕ BookRefusal → List ReadRule → List ReadRule → List ℕ
output_if (Err e) j xs ys = refused_output (text "first\t") e.refusal e.line
output_if (Ok n) (Err e) xs ys = refused_output (text "second\t") e.refusal e.line
output_if (Ok n) (Ok m) xs ys = rules_output xs ys

-- ALL THAT IS WRITTEN for two books
unfoldable pub compare_output : Limits → List ℕ → List ℕ → List ℕ
compare_output lim first second = output_if (judge lim first) (judge lim second) (read_rules lim first) (read_rules lim second)
