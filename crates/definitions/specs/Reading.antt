-- Reading a text into a table. Sections "Text" and "Numbers of refusal", 1 to 12 with their places and order; document 02, T-02: where 6 and 7 are
-- placed. Places count from 0.
use Rattle.std.specs.Prelude.{ℕ, zero, suc, ◌+◌, ◌-◌, Bool, not, List, [], ◌∷◌, ◌++◌, map, length, get_or, take, drop, eqb, ltb, if◌then◌else◌, Result, Ok, Err}
use Rattle.forms.specs.Bytes.{text, run}
use Rattle.forms.specs.Place.{Parsed, OutOfRange, Failed}
use Rattle.definitions.specs.declared.answers.Refusal.{Refusal}
use Rattle.definitions.specs.declared.answers.Refusal.TheVariants as refusal
use Rattle.definitions.specs.declared.answers.Reading.{Reading}
use Rattle.definitions.specs.declared.table.Table.{Table}
use Rattle.definitions.specs.Limits.{Limits}
use Rattle.definitions.specs.Lists.{none?, keep, count, same_bytes}
use Rattle.definitions.specs.OptionValues.{OptionValue}
use Rattle.definitions.specs.Options.{NamedOption, unlisted, listed, option_at, printable, opening}
use Rattle.definitions.specs.Tables.{table_of}
use Rattle.definitions.specs.References.{usable_in}
use Rattle.definitions.specs.Occurrences.{is_pattern, occurrence_check, missing}

-- ---- options left to right, the first bad one deciding, with its lowest number among 4 to 9 and 11

-- an option's value, and the option's first dash
pub record Located : Type 0 where
  pub dash : ℕ
  pub value : OptionValue

abbrev pub option_values_of : List Located → List OptionValue
option_values_of located = map (λ (d : Located). d.value) located

-- the last `)` was met after these options; or a refusal and its place
pub data Options : Type 0 where
  ended : List Located → Options
  refused : Refusal → ℕ → Options

abbrev pub unless_refused : Result Unit Refusal → ℕ → Options → Options
unless_refused (Ok tt) at k = k
unless_refused (Err r) at k = refused r at

-- where 6 and 7 are placed: by the option's first dash, and by the place that its form answers with, for 6 the first at which it cannot go on, for 7
-- that of the first broken limit
pub record Placing : Type 0 where
  pub form : ℕ → ℕ → ℕ
  pub limit : ℕ → ℕ → ℕ

-- document 01: at the dash
abbrev pub at_dash : Placing
at_dash = record { form = λ dash p. dash; limit = λ dash p. dash }

-- T-02: at the wrong letter
abbrev pub at_letter : Placing
at_letter = record { form = λ dash p. p; limit = λ dash p. p }

-- the option whose first dash stands at a place, after the options es: 5, then 6, then 7, then 8, 9 or 11; all but 6 and 7 at that dash
abbrev pub option_step : Placing → NamedOption → List OptionValue → ℕ → (OptionValue → ℕ → Options) → Options
option_step P unlisted es at k = refused refusal.NotListed at
option_step P (listed (Failed p)) es at k = refused refusal.Form (P.form at p)
option_step P (listed (OutOfRange p next)) es at k = refused refusal.Limit (P.limit at p)
option_step P (listed (Parsed e next)) es at k = unless_refused (occurrence_check es e) at (k e next)

abbrev pub is_space : ℕ → Bool
is_space b = eqb b 32

-- `--` stands at the front
abbrev pub dashes : List ℕ → Bool
dashes l = same_bytes (take 2 l) (text "--")

-- The text s from a place on, where the bytes l begin; `passed` of these belong to the option that was read last
unfoldable pub options : Placing → List ℕ → List ℕ → ℕ → ℕ → List Located → Options
options P s [] passed at located = refused refusal.NeitherOptionNorEnd at
options P s (b ∷ l) (suc passed) at located = options P s l passed (at + 1) located
options P s (b ∷ l) zero at located =
    if is_space b then options P s l zero (at + 1) located
    else if eqb b 41 then (if none? l then ended located else refused refusal.NeitherOptionNorEnd (at + 1))
    else if dashes (b ∷ l)
    then option_step P (option_at s at) (option_values_of located) at
    (λ e next. options P s l (next - (at + 1)) (at + 1) (located ++ (record { dash = at; value = e } ∷ [])))
    else refused refusal.NeitherOptionNorEnd at

-- ---- then 10 by pattern, then 12

-- the first dash of pattern k
abbrev pub pattern_dash : List Located → ℕ → ℕ
pattern_dash located k = get_or (map (λ (d : Located). d.dash) (keep (λ (d : Located). is_pattern d.value) located)) k 0

-- a refusal's table has no name, protocol 0, no items
abbrev pub refused_reading : ℕ → Refusal → ℕ → Reading
refused_reading room r p = record { outcome = Err (record { refusal = r; place = p }); table = table_of room [] }

abbrev pub accepted_reading : Table → Reading
accepted_reading t = record { outcome = Ok tt; table = t }

unfoldable pub checked_table : ℕ → List ℕ → List Located → Reading
checked_table room s located =
    if ltb (usable_in (option_values_of located)) (count is_pattern (option_values_of located))
    then refused_reading room refusal.Unusable (pattern_dash located (usable_in (option_values_of located)))
    else if missing (option_values_of located) then refused_reading room refusal.Missing (length s)
    else accepted_reading (table_of room (option_values_of located))

abbrev pub finished : ℕ → List ℕ → Options → Reading
finished room s (ended located) = checked_table room s located
finished room s (refused r p) = refused_reading room r p

-- ---- the whole text: 1, 2, 3, then the options

-- reading with rule 1's upper bound lifted, into a table with room for so many pattern bytes; 6 and 7 are placed so
unfoldable pub unbounded_placing : Placing → ℕ → List ℕ → Reading
unbounded_placing P room s =
    if none? s then refused_reading room refusal.TextLength 0
    else if ltb (run printable s) (length s) then refused_reading room refusal.TextByte (run printable s)
    else if not (same_bytes (take (length opening) s) opening) then refused_reading room refusal.Opening 0
    else finished room s (options P s (drop (length opening) s) 0 (length opening) [])

unfoldable pub read_placing : Placing → Limits → List ℕ → Reading
read_placing P lim s = if ltb lim.text (length s) then refused_reading lim.room refusal.TextLength 0 else unbounded_placing P lim.room s

-- READING; and without rule 1's upper bound
abbrev pub read : Limits → List ℕ → Reading
read = read_placing at_letter

abbrev pub read_unbounded : ℕ → List ℕ → Reading
read_unbounded = unbounded_placing at_letter
