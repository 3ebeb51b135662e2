-- An option read after its name: the option that its value stands for, and what stands beside the value.
use Rattle.std.specs.Prelude.{ℕ, ◌+◌, ◌≤◌, ◌≡◌, List, [], length, take}
use Rattle.forms.specs.Form.{Form}
use Rattle.definitions.specs.declared.table.Address.{Address}
use Rattle.definitions.specs.Limits.{max_addresses}
use Rattle.definitions.specs.Lists.{padded}
use Rattle.definitions.specs.OptionValues.{OptionValue}
use Rattle.definitions.specs.Tables.{no_address}
use Rattle.read_value.specs.Values.{PatternBytes, option_value_of, appended, Plain}
use Rattle.scan_cursors.specs.declared.Cursor.TheVariants.{Parsed}
use Rattle.scan_cursors.specs.Reads.{Reads}
use Rattle.read_names.specs.declared.options.OptionName.{OptionName}
use Rattle.read_names.specs.declared.options.OptionName.TheVariants as option
use Rattle.read_value.specs.declared.Value.{Value}
use Rattle.scan_cursors.specs.declared.Scanned.{Scanned}
use Rattle.read_state.specs.State.{Apart}
use Rattle.read_by_name.specs.declared.parsed.ParsedOption.{ParsedOption}

-- the option's value is no list: nothing stands beside it
abbrev pub Single : OptionName → Type 0
Single o = (o ≡ option.Name → ⊥) × (o ≡ option.SourceAddress → ⊥) × (o ≡ option.DestinationAddress → ⊥) × (o ≡ option.Pattern → ⊥)

-- the value of the form f after its name at a place, with nothing beside it
abbrev pub ReadsAlone : Form OptionValue → List ℕ → ℕ → Scanned Value → Type 0
ReadsAlone f s at v = Reads f s (Parsed at) (option_value_of s v.value [] []) v.cursor × Plain v.value

-- the option of the form f after its name at a place, the pattern bytes before it in the room, and those after it
pub record Parses (f : Form OptionValue) (s : List ℕ) (at : ℕ) (room to : PatternBytes) (r : ParsedOption) : Type 0 where
  pub al : List Address
  pub b : List ℕ
  pub reads : Reads f s (Parsed at) (option_value_of s r.value al b) r.cursor
  pub kept : r.list ≡ padded max_addresses no_address (take max_addresses al)
  pub stored : to ≡ appended room b
  pub apart : (n : ℕ) → r.cursor ≡ Parsed n → Apart s r.value al b
  pub grown : (n : ℕ) → r.cursor ≡ Parsed n → at + length b ≤ n
