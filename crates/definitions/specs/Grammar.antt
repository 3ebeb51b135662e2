-- THE SYNTAX as rules that make texts: which byte lists are texts, and of which table. No rule knows how a text is read. Section "Text".
use Rattle.std.specs.Prelude.{◌≡◌, true, false, ℕ, Ok}
use mathlib.Core.List.{List, [], ◌∷◌, ◌++◌, Memᴰ as Mem}
use Rattle.forms.specs.Bytes.{same_word}
use Rattle.forms.specs.Form.{Means}
use Rattle.definitions.specs.declared.table.Table.{Table}
use Rattle.definitions.specs.Lists.{all?, count}
use Rattle.definitions.specs.OptionValues.{OptionValue}
use Rattle.definitions.specs.Options.{Option, option_table, printable, opening}
use Rattle.definitions.specs.Tables.{table_of}
use Rattle.definitions.specs.Occurrences.{is_pattern, occurrence_check, missing}
use Rattle.definitions.specs.References.{usable_in}

-- `--`, a listed name in any letter case, and what its form allows, within its limits
pub data OptionText : List ℕ → OptionValue → Type 1 where
  option : (o : Option) (n y : List ℕ) {e : OptionValue} → Mem o option_table → same_word n o.name ≡ true → Means true o.form y e
      → OptionText (45 ∷ 45 ∷ (n ++ y)) e

-- options with any spaces before, between and after, then `)` as the last byte. `Says x e`: the option's text x says e, by `OptionText` or by another grammar
pub data OptionsBy (Says : List ℕ → OptionValue → Type 1) : List ℕ → List OptionValue → Type 1 where
  close : OptionsBy Says (41 ∷ []) []
  space : {l : List ℕ} {es : List OptionValue} → OptionsBy Says l es → OptionsBy Says (32 ∷ l) es
  more : {x l : List ℕ} {e : OptionValue} {es : List OptionValue} → Says x e → OptionsBy Says l es → OptionsBy Says (x ++ l) (e ∷ es)

abbrev pub OptionsText : List ℕ → List OptionValue → Type 1
OptionsText = OptionsBy OptionText

-- each option may stand after those before it
pub data Occurrences : List OptionValue → List OptionValue → Type 0 where
  none : {before : List OptionValue} → Occurrences before []
  more : {before es : List OptionValue} {e : OptionValue} → occurrence_check before e ≡ Ok tt → Occurrences (before ++ (e ∷ [])) es → Occurrences before (e ∷ es)

-- the texts of a table, of any length: `F-SBID(` and the options, each byte from 0x20 to 0x7E; all references usable; name and protocol given
pub record DerivesBy (Says : List ℕ → OptionValue → Type 1) (room : ℕ) (s : List ℕ) (t : Table) : Type 1 where
  pub body : List ℕ
  pub values : List OptionValue
  pub framed : s ≡ opening ++ body
  pub printed : all? printable s ≡ true
  pub made : OptionsBy Says body values
  pub occurrences : Occurrences [] values
  pub usable : usable_in values ≡ count is_pattern values
  pub complete : missing values ≡ false
  pub table : t ≡ table_of room values

-- THE TEXTS of a table
abbrev pub Derives : ℕ → List ℕ → Table → Type 1
Derives = DerivesBy OptionText
