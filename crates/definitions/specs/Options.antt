-- The options and their names, and the frame of a text. Section "Text", the table's first column, and document 02's byte_test.
use Rattle.std.specs.Prelude.{ℕ, ◌+◌, Bool, ◌||◌, List, [], ◌∷◌, take, drop, eqb, if◌then◌else◌}
use Prim.Native.String.{String}
use Rattle.forms.specs.Bytes.{text, between, lower, same_word, run}
use Rattle.forms.specs.Form.{Form}
use Rattle.forms.specs.Place.{Read, read_at}
use Rattle.definitions.specs.declared.table.Side.TheVariants.{Source, Destination}
use Rattle.definitions.specs.declared.table.NumberField.TheVariants as number
use Rattle.definitions.specs.declared.table.HeaderField.TheVariants as header
use Rattle.definitions.specs.OptionValues.{OptionValue}
use Rattle.definitions.specs.Forms.{name_form, protocol_form, flow_form, address_form, same_ip_form, number_form, ttl_form, field_form, ip_id_form, size_form}
use Rattle.definitions.specs.Forms.{at_form, byte_form, pattern_form, context_form, no_case_form, distance_form, within_form}

-- a row of the table: an option's name, and its form after the name
pub record Option : Type 1 where
  pub name : List ℕ
  pub form : Form OptionValue

abbrev pub row : String → Form OptionValue → Option
row s f = record { name = text s; form = f }

unfoldable pub option_table : List Option
option_table =
    row "name" name_form ∷
    row "protocol" protocol_form ∷
    row "flow" flow_form ∷
    row "src_addr" (address_form Source) ∷
    row "dst_addr" (address_form Destination) ∷
    row "same_ip" same_ip_form ∷
    row "ip_id" ip_id_form ∷
    row "src_port" (number_form number.SourcePort) ∷
    row "dst_port" (number_form number.DestinationPort) ∷
    row "ip_tos" (number_form number.Tos) ∷
    row "ip_ttl" ttl_form ∷
    row "ip.total_length" (field_form header.TotalLength) ∷
    row "ip.id" (field_form header.Id) ∷
    row "ip.checksum" (field_form header.Checksum) ∷
    row "ip.ttl" (field_form header.Ttl) ∷
    row "data_size" size_form ∷
    row "data_at" at_form ∷
    row "byte_test" byte_form ∷
    row "pattern" pattern_form ∷
    row "context" context_form ∷
    row "no_case" no_case_form ∷
    row "distance" distance_form ∷
    row "within" within_form ∷
    []

-- a letter, a digit, `_` or `.`
unfoldable pub in_name : ℕ → Bool
in_name b = between 97 122 (lower b) || (between 48 57 b || (eqb b 95 || eqb b 46))

-- an option's name is not listed, or it is and its form answers
pub data NamedOption : Type 0 where
  unlisted : NamedOption
  listed : Read OptionValue → NamedOption

-- the option with the name n, read after its name; letter case is ignored
unfoldable pub named_option : List Option → List ℕ → List ℕ → ℕ → NamedOption
named_option [] n s at = unlisted
named_option (o ∷ os) n s at = if same_word n o.name then listed (read_at o.form s at) else named_option os n s at

-- the length of the name at a place: the longest run of letters, digits, `_` and `.`
abbrev pub name_length : List ℕ → ℕ → ℕ
name_length s at = run in_name (drop at s)

-- the option whose first dash stands at a place
unfoldable pub option_at : List ℕ → ℕ → NamedOption
option_at s at = named_option option_table (take (name_length s (at + 2)) (drop (at + 2) s)) s (at + 2 + name_length s (at + 2))

-- ---- the frame: a byte that a text may hold, and what it opens with

unfoldable pub printable : ℕ → Bool
printable b = between 32 126 b

abbrev pub opening : List ℕ
opening = text "F-SBID("
