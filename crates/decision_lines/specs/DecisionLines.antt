-- A LINE OF DECISIONS, and the answer to it: what a packet and a book come to, for comparison with other programs. docs/vectors/README.md has the form in words. In
-- numbers a tab is 9.
use Rattle.std.specs.Prelude.{ℕ, Bool, ◌&&◌, List, ◌++◌, length, leb, if◌then◌else◌, Result, Ok, Err}
use Rattle.forms.specs.Bytes.{text}
use Rattle.definitions.specs.declared.books.Action.{Action}
use Rattle.definitions.specs.declared.books.Action.TheVariants.{Pass, Hold}
use Rattle.definitions.specs.declared.books.Decision.{Decision}
use Rattle.definitions.specs.declared.answers.BookRefusal.{BookRefusal}
use Rattle.definitions.specs.Limits.{document_limits}
use Rattle.definitions.specs.Refusals.{number_of}
use Rattle.definitions.specs.Canonical.{decimal}
use Rattle.definitions.specs.Parts.{contains, after_parts, part}
use Rattle.definitions.specs.Decisions.{decision}
use Rattle.definitions.specs.Cases.{pairs}
use Rattle.line_numbers.specs.HexPairs.{is_hex}
use Rattle.line_packets.specs.Directions.{is_direction, direction_of}
use Rattle.line_fields.specs.FieldMaps.{is_map, map_of}

-- bytes of a line before its LF
abbrev pub max_line : ℕ
max_line = 262144

-- four tabs, and each column of its form; the fifth column is everything after the fourth tab: the book as pairs of hex digits. Any other line is bad
unfoldable pub is_decision_line : List ℕ → Bool
is_decision_line l =
    leb (length l) max_line && (contains 9 (after_parts 9 3 l)
    && (is_direction (part 9 0 l) && (is_hex (part 9 1 l) && (is_map (part 9 2 l) && (is_hex (part 9 3 l) && is_hex (after_parts 9 4 l))))))

abbrev pub action_text : Action → List ℕ
action_text Pass = text "pass "
action_text Hold = text "hold "

-- action and rule, or the book's refusal and its line
unfoldable pub decision_text : Result Decision BookRefusal → List ℕ
decision_text (Ok d) = action_text d.action ++ decimal d.rule
decision_text (Err e) = text "refused " ++ (decimal (number_of e.refusal) ++ (text " " ++ decimal e.line))

-- what is written for a line, without its number and the LF
unfoldable pub decision_answer : List ℕ → List ℕ
decision_answer l =
    if is_decision_line l
    then decision_text
    (decision document_limits (pairs (part 9 1 l)) (pairs (part 9 3 l)) (direction_of (part 9 0 l)) (map_of (part 9 2 l)) (pairs (after_parts 9 4 l)))
    else text "bad"
