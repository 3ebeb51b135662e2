-- A RULE BOOK: its lines, the form of a line, and how a book is judged. Document 02, T-03. In numbers a tab is 9 and LF is 10.
use Rattle.std.specs.Prelude.{ℕ, suc, Bool, true, false, not, ◌&&◌, ◌||◌, List, [], ◌∷◌, map, length, get_or, eqb, ltb, leb, if◌then◌else◌, Result, Ok, Err}
use Rattle.forms.specs.Bytes.{text}
use Rattle.definitions.specs.declared.answers.Refusal.TheVariants as refusal
use Rattle.definitions.specs.declared.books.State.{State}
use Rattle.definitions.specs.declared.books.State.TheVariants as state
use Rattle.definitions.specs.declared.books.Action.{Action}
use Rattle.definitions.specs.declared.books.Action.TheVariants as action
use Rattle.definitions.specs.declared.answers.BookRefusal.{BookRefusal}
use Rattle.definitions.specs.declared.answers.Refusal.{Refusal}
use Rattle.definitions.specs.declared.answers.TextRefusal.{TextRefusal}
use Rattle.definitions.specs.Limits.{Limits, max_word, max_book, max_rules}
use Rattle.definitions.specs.Lists.{same_bytes}
use Rattle.definitions.specs.Numbers.{value_of, is_number}
use Rattle.definitions.specs.Parts.{contains, part_before, after_parts, part}
use Rattle.definitions.specs.Refusals.{refuse_if}
use Rattle.definitions.specs.Reading.{read}

-- ---- the lines of a book

-- a byte before the lines that follow: LF ends its line, any other byte belongs to the first of them
abbrev pub into_lines : Bool → ℕ → List (List ℕ) → List (List ℕ)
into_lines true b ls = (b ∷ []) ∷ ls
into_lines false b [] = (b ∷ []) ∷ []
into_lines false b (l ∷ ls) = (b ∷ l) ∷ ls

-- each line with its LF; bytes after the last LF are a line too, which has none
unfoldable pub book_lines : List ℕ → List (List ℕ)
book_lines [] = []
book_lines (b ∷ l) = into_lines (eqb b 10) b (book_lines l)

-- ---- a rule: number, tab, state, tab, action, tab, signature text, LF

-- 1 to 65535 without leading zeros
unfoldable pub is_rule_number : List ℕ → Bool
is_rule_number l = is_number max_word l && not (eqb (get_or l 0 0) 48)

unfoldable pub is_state : List ℕ → Bool
is_state l = same_bytes l (text "on") || same_bytes l (text "off")

unfoldable pub state_of : List ℕ → State
state_of l = if same_bytes l (text "on") then state.On else state.Off

unfoldable pub is_action : List ℕ → Bool
is_action l = same_bytes l (text "pass") || same_bytes l (text "hold")

unfoldable pub action_of : List ℕ → Action
action_of l = if same_bytes l (text "pass") then action.Pass else action.Hold

-- the LF, three tabs or more, and the parts before the third of their forms; the text is all between that tab and the LF
unfoldable pub is_rule : List ℕ → Bool
is_rule l =
    contains 10 l && (contains 9 (after_parts 9 2 l) && (is_rule_number (part 9 0 l) && (is_state (part 9 1 l) && is_action (part 9 2 l))))

pub record Rule : Type 0 where
  pub number : ℕ
  pub state : State
  pub action : Action
  pub source : List ℕ

unfoldable pub rule_number : List ℕ → ℕ
rule_number l = value_of 10 0 (part 9 0 l)

unfoldable pub rule_source : List ℕ → List ℕ
rule_source l = part_before 10 (after_parts 9 3 l)

unfoldable pub rule_of : List ℕ → Rule
rule_of l = record { number = rule_number l; state = state_of (part 9 1 l); action = action_of (part 9 2 l); source = rule_source l }

unfoldable pub rules_of : List ℕ → List Rule
rules_of book = map rule_of (book_lines book)

-- ---- judging: 50, then line by line 53, 51, 52, the text's own refusal, whether the rule is on or off

abbrev pub text_check : Result Unit TextRefusal → Result Unit Refusal
text_check (Ok tt) = Ok tt
text_check (Err e) = Err e.refusal

-- line n, after a rule of the number `last`; before the first rule that is 0
unfoldable pub line_check : Limits → ℕ → ℕ → List ℕ → Result Unit Refusal
line_check lim n last l =
    refuse_if (ltb max_rules n) refusal.RuleCount
    (refuse_if (not (is_rule l)) refusal.RuleForm
    (refuse_if (leb (rule_number l) last) refusal.RuleOrder
    (text_check (read lim (rule_source l)).outcome)))

abbrev pub unless_line : Result Unit Refusal → ℕ → Result ℕ BookRefusal → Result ℕ BookRefusal
unless_line (Ok tt) n j = j
unless_line (Err r) n j = Err (record { refusal = r; line = n })

-- the lines after n good ones
unfoldable pub judge_lines : Limits → ℕ → ℕ → List (List ℕ) → Result ℕ BookRefusal
judge_lines lim n last [] = Ok n
judge_lines lim n last (l ∷ ls) = unless_line (line_check lim (suc n) last l) (suc n) (judge_lines lim (suc n) (rule_number l) ls)

-- THE JUDGEMENT of a book: how many rules it has, or the first refusal with its line
unfoldable pub judge : Limits → List ℕ → Result ℕ BookRefusal
judge lim book = if ltb max_book (length book) then Err (record { refusal = refusal.BookLength; line = 0 }) else judge_lines lim 0 0 (book_lines book)
