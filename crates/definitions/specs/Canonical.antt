-- Canonical text, which document 01 calls "house text". Section "House text": the options of a table in their order, and the text of each.
use Rattle.std.specs.Prelude.{ℕ, zero, suc, ◌+◌, ◌/◌, ◌%◌, Bool, true, false, not, List, [], ◌∷◌, ◌++◌, length, take, eqb, ltb, ℤ, pos, negsuc, if◌then◌else◌, Some, None, Option}
use Rattle.forms.specs.Bytes.{text}
use Rattle.forms.specs.Form.{has}
use Rattle.definitions.specs.declared.table.Flow as flows
use Rattle.definitions.specs.declared.table.Flow.TheVariants as flow
use Rattle.definitions.specs.declared.table.Side.{Side}
use Rattle.definitions.specs.declared.table.Side.TheVariants as side
use Rattle.definitions.specs.declared.table.NumberField.{NumberField}
use Rattle.definitions.specs.declared.table.NumberField.TheVariants as number_field
use Rattle.definitions.specs.declared.table.Order.{Order}
use Rattle.definitions.specs.declared.table.Order.TheVariants as order
use Rattle.definitions.specs.declared.table.HeaderField.{HeaderField}
use Rattle.definitions.specs.declared.table.HeaderField.TheVariants as header_field
use Rattle.definitions.specs.declared.table.Operator.{Operator}
use Rattle.definitions.specs.declared.table.Operator.TheVariants as operator
use Rattle.definitions.specs.declared.table.SizeField.{SizeField}
use Rattle.definitions.specs.declared.table.SizeField.TheVariants as size_field
use Rattle.definitions.specs.declared.table.ByteOperator.{ByteOperator}
use Rattle.definitions.specs.declared.table.ByteOperator.TheVariants as byte_operator
use Rattle.definitions.specs.declared.table.Context as contexts
use Rattle.definitions.specs.declared.table.Context.TheVariants as context
use Rattle.definitions.specs.declared.table.Reference.{Reference}
use Rattle.definitions.specs.declared.table.Reference.TheVariants as reference
use Rattle.definitions.specs.declared.table.FieldTest.{FieldTest}
use Rattle.definitions.specs.declared.table.ByteTest.{ByteTest}
use Rattle.definitions.specs.declared.table.Pattern as patterns
use Rattle.definitions.specs.declared.table.Item.{Item}
use Rattle.definitions.specs.declared.table.Item.TheVariants as item
use Rattle.definitions.specs.declared.table.Address.{Address}
use Rattle.definitions.specs.declared.table.Slot.{Slot}
use Rattle.definitions.specs.declared.table.Table.{Table}
use Rattle.definitions.specs.declared.table.DistanceValue.{DistanceValue}
use Rattle.definitions.specs.declared.table.WithinValue.{WithinValue}
use Rattle.definitions.specs.Limits.{max_prefix}
use Rattle.definitions.specs.OptionValues.{Modifier, Context, NoCase, Distance, Within, OptionValue, Name, Protocol, Flow, Test, Pattern, Modified}
use Rattle.definitions.specs.Forms.{max_field, plain_bytes}
use Rattle.definitions.specs.ByteCounts.{byte_count}
use Rattle.definitions.specs.Items.{Kind, unused, addressed, patterned, plain_test, kind_of, slots_of, after_item}
use Rattle.definitions.specs.Options.{opening}

-- ---- the options. Order: name, protocol, flow if given, then the items; after a pattern: context, no_case, distance, within.
-- Left out: context packet

abbrev pub flow_option : flows.Flow → List OptionValue
flow_option flow.Any = []
flow_option flow.FromClient = Flow flow.FromClient ∷ []
flow_option flow.FromServer = Flow flow.FromServer ∷ []

abbrev pub modifier_option : Modifier → List OptionValue
modifier_option m = Modified m ∷ []

abbrev pub context_option : contexts.Context → List OptionValue
context_option context.Packet = []
context_option context.Uri = modifier_option (Context context.Uri)
context_option context.Header = modifier_option (Context context.Header)
context_option context.Body = modifier_option (Context context.Body)
context_option context.Banner = modifier_option (Context context.Banner)
context_option context.Host = modifier_option (Context context.Host)
context_option context.File = modifier_option (Context context.File)

abbrev pub no_case_option : Bool → List OptionValue
no_case_option nocase = if nocase then modifier_option NoCase else []

abbrev pub distance_option : Option DistanceValue → List OptionValue
distance_option None = []
distance_option (Some d) = modifier_option (Distance d)

abbrev pub within_option : Option WithinValue → List OptionValue
within_option None = []
within_option (Some w) = modifier_option (Within w)

-- the pattern p, whose bytes stand at the front of b
abbrev pub pattern_options : patterns.Pattern → List ℕ → List OptionValue
pattern_options p b =
    Pattern p.negated (take p.len b)
    ∷ (context_option p.context ++ (no_case_option p.nocase ++ (distance_option p.distance ++ within_option p.within)))

abbrev pub item_options : Kind → Slot → List ℕ → List OptionValue
item_options unused sl b = []
item_options (addressed a) sl b = Test sl.item (take a.count sl.addresses) ∷ []
item_options (patterned p) sl b = pattern_options p b
item_options plain_test sl b = Test sl.item [] ∷ []

-- the options of some slots; b are the pattern bytes from theirs on
unfoldable pub slot_options : List Slot → List ℕ → List OptionValue
slot_options [] b = []
slot_options (sl ∷ sls) b = item_options (kind_of sl.item) sl b ++ slot_options sls (after_item (kind_of sl.item) b)

unfoldable pub canonical_options : Table → List OptionValue
canonical_options t =
    Name (take t.len t.name)
    ∷ (Protocol t.protocol ∷ (flow_option t.flow ++ slot_options (slots_of t) t.bytes))

-- ---- numbers: decimal, without leading zeros

-- a number of one digit, or its last one after the digits of its tenth; these are asked for only where there are any, so that a number of four bytes computes
abbrev pub digits_by : Bool → (ℕ → List ℕ) → ℕ → List ℕ
digits_by true tenth n = (48 + n) ∷ []
digits_by false tenth n = tenth (n / 10) ++ ((48 + n % 10) ∷ [])

-- n, where k digits are enough
unfoldable pub digits_of : ℕ → ℕ → List ℕ
digits_of zero n = []
digits_of (suc k) n = digits_by (ltb n 10) (digits_of k) n

abbrev pub decimal : ℕ → List ℕ
decimal n = digits_of (suc n) n

abbrev pub decimalℤ : ℤ → List ℕ
decimalℤ (pos n) = decimal n
decimalℤ (negsuc n) = text "-" ++ decimal (suc n)

-- ---- lower-case option names and keywords. Left out: reference match, operator `=` and field payload of data_size, prefix /32, a full mask

abbrev pub text_if : Bool → List ℕ → List ℕ
text_if b l = if b then l else []

abbrev pub quoted : List ℕ → List ℕ
quoted l = text "\"" ++ (l ++ text "\"")

abbrev pub negated_text : Bool → List ℕ
negated_text negated = text_if negated (text "!")

abbrev pub flow_text : flows.Flow → List ℕ
flow_text flow.Any = []
flow_text flow.FromClient = text "from_client"
flow_text flow.FromServer = text "from_server"

abbrev pub side_name : Side → List ℕ
side_name side.Source = text "src_addr"
side_name side.Destination = text "dst_addr"

-- address bits after the prefix as read
abbrev pub octets : ℕ → List ℕ
octets n =
    decimal (n / 16777216 % 256)
    ++ (text "." ++ (decimal (n / 65536 % 256) ++ (text "." ++ (decimal (n / 256 % 256) ++ (text "." ++ decimal (n % 256))))))

abbrev pub address_text : Address → List ℕ
address_text a = octets a.number ++ text_if (not (eqb a.prefix max_prefix)) (text "/" ++ decimal a.prefix)

unfoldable pub addresses_text : List Address → List ℕ
addresses_text [] = []
addresses_text (a ∷ []) = address_text a
addresses_text (a ∷ (b ∷ al)) = address_text a ++ (text "," ++ addresses_text (b ∷ al))

-- brackets only for two or more addresses
abbrev pub bracketed : List Address → List ℕ
bracketed al = if ltb 1 (length al) then text "[" ++ (addresses_text al ++ text "]") else addresses_text al

-- no table that is not refused holds an ip_id (document 02, T-09): this is what it was written as
abbrev pub number_name : NumberField → List ℕ
number_name number_field.IpId = text "ip_id"
number_name number_field.SourcePort = text "src_port"
number_name number_field.DestinationPort = text "dst_port"
number_name number_field.Tos = text "ip_tos"

abbrev pub order_text : Order → List ℕ
order_text order.Equal = []
order_text order.Less = text "<"
order_text order.Greater = text ">"

abbrev pub field_name : HeaderField → List ℕ
field_name header_field.TotalLength = text "ip.total_length"
field_name header_field.Id = text "ip.id"
field_name header_field.Checksum = text "ip.checksum"
field_name header_field.Ttl = text "ip.ttl"

abbrev pub operator_text : Operator → List ℕ
operator_text operator.Equal = text "="
operator_text operator.Unequal = text "!="
operator_text operator.Less = text "<"
operator_text operator.Greater = text ">"
operator_text operator.AtMost = text "<="
operator_text operator.AtLeast = text ">="

-- one space around field operators and `&`
unfoldable pub field_text : FieldTest → List ℕ
field_text f =
    text_if (not (eqb f.mask (max_field f.field))) (text "& " ++ (decimal f.mask ++ text " "))
    ++ (operator_text f.operator ++ (text " " ++ decimal f.number))

abbrev pub size_field_text : SizeField → List ℕ
size_field_text size_field.Payload = []
size_field_text size_field.Uri = text ",uri"
size_field_text size_field.Header = text ",header"
size_field_text size_field.Body = text ",body"

abbrev pub byte_operator_text : ByteOperator → List ℕ
byte_operator_text byte_operator.Greater = text ">"
byte_operator_text byte_operator.Less = text "<"
byte_operator_text byte_operator.Equal = text "="
byte_operator_text byte_operator.Unequal = text "!"

-- a byte test's parts, each with its comma: the value in decimal (document 02, T-01)
unfoldable pub comparison_text : ByteTest → List ℕ
comparison_text a =
    decimal (byte_count a.width) ++ (text "," ++ (byte_operator_text a.operator ++ (text "," ++ (decimal a.value ++ text ","))))

unfoldable pub byte_text : ByteTest → List ℕ
byte_text a = comparison_text a ++ (decimal a.offset ++ (text_if a.relative (text ",relative") ++ text_if a.little (text ",little")))

abbrev pub context_text : contexts.Context → List ℕ
context_text context.Packet = text "packet"
context_text context.Uri = text "uri"
context_text context.Header = text "header"
context_text context.Body = text "body"
context_text context.Banner = text "banner"
context_text context.Host = text "host"
context_text context.File = text "file"

abbrev pub reference_text : Reference → List ℕ
reference_text reference.Match = []
reference_text reference.Packet = text ",packet"
reference_text reference.Context = text ",context"

-- ---- patterns: 0x20 to 0x7E but the five bytes as themselves, the rest in hex, capitals, neighbours in one block without spaces

abbrev pub hex_digit : ℕ → ℕ
hex_digit d = if ltb d 10 then 48 + d else 55 + d

-- the bytes of a pattern; `opened` tells whether a block is open
unfoldable pub pattern_text : Bool → List ℕ → List ℕ
pattern_text opened [] = text_if opened (text "|")
pattern_text opened (b ∷ l) =
    if has plain_bytes b
    then text_if opened (text "|") ++ (b ∷ pattern_text false l)
    else text_if (not opened) (text "|") ++ (hex_digit (b / 16) ∷ hex_digit (b % 16) ∷ pattern_text true l)

-- ---- each option after one space

abbrev pub valued_text : List ℕ → List ℕ → List ℕ
valued_text name v = text " --" ++ (name ++ (text " " ++ (v ++ text ";")))

abbrev pub bare_text : List ℕ → List ℕ
bare_text name = text " --" ++ (name ++ text ";")

-- a slot that is not in use, and a pattern, are no tests
unfoldable pub test_text : Item → List Address → List ℕ
test_text item.Unused al = []
test_text (item.Address a) al = valued_text (side_name a.side) (negated_text a.negated ++ bracketed al)
test_text item.SameIp al = bare_text (text "same_ip")
test_text (item.Number a) al = valued_text (number_name a.field) (decimal a.number)
test_text (item.Ttl a) al = valued_text (text "ip_ttl") (order_text a.order ++ decimal a.number)
test_text (item.Field a) al = valued_text (field_name a.field) (field_text a)
test_text (item.Size a) al = valued_text (text "data_size") (order_text a.order ++ (decimal a.number ++ size_field_text a.field))
test_text (item.At a) al = valued_text (text "data_at") (decimal a.number ++ text_if a.relative (text ",relative"))
test_text (item.Byte a) al = valued_text (text "byte_test") (byte_text a)
test_text (item.Pattern p) al = []

unfoldable pub modifier_text : Modifier → List ℕ
modifier_text (Context c) = valued_text (text "context") (context_text c)
modifier_text NoCase = bare_text (text "no_case")
modifier_text (Distance d) = valued_text (text "distance") (decimalℤ d.offset ++ (reference_text d.reference ++ text_if d.reverse (text ",reverse")))
modifier_text (Within w) = valued_text (text "within") (decimal w.number ++ reference_text w.reference)

-- protocol as a number
unfoldable pub option_text : OptionValue → List ℕ
option_text (Name n) = valued_text (text "name") (quoted n)
option_text (Protocol p) = valued_text (text "protocol") (decimal p)
option_text (Flow f) = valued_text (text "flow") (flow_text f)
option_text (Test it al) = test_text it al
option_text (Pattern negated b) = valued_text (text "pattern") (negated_text negated ++ quoted (pattern_text false b))
option_text (Modified m) = modifier_text m

unfoldable pub options_text : List OptionValue → List ℕ
options_text [] = []
options_text (e ∷ es) = option_text e ++ options_text es

-- THE CANONICAL TEXT of a table: `F-SBID(`, the options, then one space and `)`
unfoldable pub canonical_text : Table → List ℕ
canonical_text t = opening ++ (options_text (canonical_options t) ++ text " )")
