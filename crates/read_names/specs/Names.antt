-- The options of the table by name: their order and forms are those of its rows (`rows_in_order`).
use Rattle.std.specs.Prelude.{ℕ, Bool, not, List, [], ◌∷◌, map, if◌then◌else◌, Option, Some, None}
use Rattle.forms.specs.Bytes.{between, same_word}
use Rattle.forms.specs.Form.{Form}
use Rattle.forms.specs.Place.{read_at}
use Rattle.definitions.specs.declared.table.Side.TheVariants.{Source, Destination}
use Rattle.definitions.specs.declared.table.NumberField.TheVariants as number
use Rattle.definitions.specs.declared.table.HeaderField.TheVariants as header
use Rattle.definitions.specs.Lists.{all?}
use Rattle.definitions.specs.OptionValues.{OptionValue}
use Rattle.definitions.specs.Forms.{name_form, protocol_form, flow_form, address_form, same_ip_form, number_form, ttl_form, field_form, ip_id_form}
use Rattle.definitions.specs.Forms.{size_form, at_form, byte_form, pattern_form, context_form, no_case_form, distance_form, within_form}
use Rattle.definitions.specs.Options.{option_table, NamedOption, unlisted, listed}
use Rattle.read_names.specs.declared.options.OptionName.{OptionName}
use Rattle.read_names.specs.declared.options.OptionName.TheVariants as option

-- the options in the order of the rows
unfoldable pub option_order : List OptionName
option_order =
    option.Name ∷
    option.Protocol ∷
    option.Flow ∷
    option.SourceAddress ∷
    option.DestinationAddress ∷
    option.SameIp ∷
    option.IpId ∷
    option.SourcePort ∷
    option.DestinationPort ∷
    option.IpTos ∷
    option.IpTtl ∷
    option.HeaderTotalLength ∷
    option.HeaderId ∷
    option.HeaderChecksum ∷
    option.HeaderTtl ∷
    option.DataSize ∷
    option.DataAt ∷
    option.ByteTest ∷
    option.Pattern ∷
    option.Context ∷
    option.NoCase ∷
    option.Distance ∷
    option.Within ∷
    []

-- an option's form after its name
unfoldable pub form_of : OptionName → Form OptionValue
form_of option.Name = name_form
form_of option.Protocol = protocol_form
form_of option.Flow = flow_form
form_of option.SourceAddress = address_form Source
form_of option.DestinationAddress = address_form Destination
form_of option.SameIp = same_ip_form
form_of option.IpId = ip_id_form
form_of option.SourcePort = number_form number.SourcePort
form_of option.DestinationPort = number_form number.DestinationPort
form_of option.IpTos = number_form number.Tos
form_of option.IpTtl = ttl_form
form_of option.HeaderTotalLength = field_form header.TotalLength
form_of option.HeaderId = field_form header.Id
form_of option.HeaderChecksum = field_form header.Checksum
form_of option.HeaderTtl = field_form header.Ttl
form_of option.DataSize = size_form
form_of option.DataAt = at_form
form_of option.ByteTest = byte_form
form_of option.Pattern = pattern_form
form_of option.Context = context_form
form_of option.NoCase = no_case_form
form_of option.Distance = distance_form
form_of option.Within = within_form

-- the names of the rows, and how many there are (`names_count`)
unfoldable pub option_names : List (List ℕ)
option_names = map (λ row. row.name) option_table

abbrev pub option_count : ℕ
option_count = 23

-- no byte of a word is a capital, as in the names of the rows (`names_small`)
abbrev pub no_capitals : List ℕ → Bool
no_capitals w = all? (λ b. not (between 65 90 b)) w

-- the option of the first row whose name is n, its letter case ignored
unfoldable pub option_named : List OptionName → List (List ℕ) → List ℕ → Option OptionName
option_named [] ws n = None
option_named (o ∷ os) [] n = None
option_named (o ∷ os) (w ∷ ws) n = if same_word n w then Some o else option_named os ws n

-- what the definition makes of an option that was looked up, after its name
abbrev pub parsed_as : Option OptionName → List ℕ → ℕ → NamedOption
parsed_as (Some o) s at = listed (read_at (form_of o) s at)
parsed_as None s at = unlisted
