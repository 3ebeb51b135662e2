-- The form and the limits of each option after its name. Section "Text", the table's second column, a definition for each row.
use Rattle.std.specs.Prelude.{ℕ, ◌+◌, ◌*◌, Bool, true, false, List, [], ◌∷◌, ◌++◌, length, leb, ℤ, pos, neg_ℤ, if◌then◌else◌}
use Rattle.forms.specs.Bytes.{text}
use Rattle.forms.specs.Form.{Class, Form, pure, byte, pair, many, fmap, bound}
use Rattle.forms.specs.Pieces.{preceded, terminated, or, opt, some, literal, literal_as, keyword, word}
use Rattle.definitions.specs.declared.table.Flow.TheVariants as flow
use Rattle.definitions.specs.declared.table.Side.{Side}
use Rattle.definitions.specs.declared.table.NumberField.{NumberField}
use Rattle.definitions.specs.declared.table.NumberField.TheVariants as number_field
use Rattle.definitions.specs.declared.table.Order.{Order}
use Rattle.definitions.specs.declared.table.Order.TheVariants as order
use Rattle.definitions.specs.declared.table.HeaderField.{HeaderField}
use Rattle.definitions.specs.declared.table.HeaderField.TheVariants as header_field
use Rattle.definitions.specs.declared.table.Operator.{Operator}
use Rattle.definitions.specs.declared.table.Operator.TheVariants as operator
use Rattle.definitions.specs.declared.table.FieldTest.{FieldTest}
use Rattle.definitions.specs.declared.table.SizeField.{SizeField}
use Rattle.definitions.specs.declared.table.SizeField.TheVariants as size_field
use Rattle.definitions.specs.declared.table.Width.{Width}
use Rattle.definitions.specs.declared.table.ByteOperator.{ByteOperator}
use Rattle.definitions.specs.declared.table.ByteOperator.TheVariants as byte_operator
use Rattle.definitions.specs.declared.table.Context as contexts
use Rattle.definitions.specs.declared.table.Context.TheVariants as context
use Rattle.definitions.specs.declared.table.Reference.{Reference}
use Rattle.definitions.specs.declared.table.Reference.TheVariants as reference
use Rattle.definitions.specs.declared.table.Item.{Item}
use Rattle.definitions.specs.declared.table.Item.TheVariants as item
use Rattle.definitions.specs.declared.table.Address.{Address}
use Rattle.definitions.specs.Limits.{max_byte, max_word, max_long, max_name, max_prefix}
use Rattle.definitions.specs.Numbers.{hex_digits, digit_value, number_that, number, numeral}
use Rattle.definitions.specs.ByteCounts.{is_byte_count, width_of}
use Rattle.definitions.specs.OptionValues.{Context, NoCase, Distance, Within, OptionValue, Name, Protocol, Flow, Test, Pattern, Modified}

-- ---- spaces and the end of an option

-- any spaces; one or more
abbrev pub spaces : Form (List ℕ)
spaces = many (literal 32)

abbrev pub gap : Form (List ℕ)
gap = some (literal 32)

-- any spaces and `;` after a value; one or more spaces before it
abbrev pub closed : Form OptionValue → Form OptionValue
closed f = terminated f (preceded spaces (literal 59))

abbrev pub valued : Form OptionValue → Form OptionValue
valued f = preceded gap (closed f)

-- optional `,` and then
abbrev pub comma : {A : Type 0} → A → Form A → Form A
comma a f = opt a (preceded (literal 44) f)

-- optional `!`
abbrev pub negation : Form Bool
negation = opt false (literal_as 33 true)

-- a test without addresses
abbrev pub test : Item → OptionValue
test it = Test it []

-- ---- the rows

-- name: 1 to 64 bytes in `"`, none of them `"` or `;`
abbrev pub quotable : Class
quotable = (32, 33) ∷ (35, 58) ∷ (60, 126) ∷ []

abbrev pub name_form : Form OptionValue
name_form =
    valued (fmap Name
    (bound (λ (n : List ℕ). leb (length n) max_name) (λ (n : List ℕ). 0)
    (preceded (literal 34) (terminated (some (byte quotable)) (literal 34)))))

-- protocol: `tcp` (6), `udp` (17), `icmp` (1) or 0..255
abbrev pub protocol_form : Form OptionValue
protocol_form = valued (fmap Protocol (or (keyword (text "tcp") 6) (or (keyword (text "udp") 17) (or (keyword (text "icmp") 1) (number max_byte)))))

-- flow: `from_client` or `from_server`
abbrev pub flow_form : Form OptionValue
flow_form = valued (fmap Flow (preceded (word (text "from_")) (or (keyword (text "client") flow.FromClient) (keyword (text "server") flow.FromServer))))

-- an address is four numbers 0..255, optional `/0`..`/32`
abbrev pub address_of : ℕ × (ℕ × (ℕ × (ℕ × ℕ))) → Address
address_of p = record { number = ((p.0 * 256 + p.1.0) * 256 + p.1.1.0) * 256 + p.1.1.1.0; prefix = p.1.1.1.1 }

abbrev pub octet : Form ℕ
octet = number max_byte

abbrev pub dotted : Form ℕ
dotted = terminated octet (literal 46)

abbrev pub address : Form Address
address = fmap address_of (pair dotted (pair dotted (pair dotted (pair octet (opt max_prefix (preceded (literal 47) (number max_prefix)))))))

-- one address, or one or more in `[ ]` parted by commas (a ninth is refusal 11)
abbrev pub addresses : Form (List Address)
addresses =
    or
    (preceded (literal 91) (terminated (fmap (λ (p : Address × List Address). p.0 ∷ p.1) (pair address (many (preceded (literal 44) address)))) (literal 93)))
    (fmap (λ (a : Address). a ∷ []) address)

-- src_addr, dst_addr: optional `!`, then the addresses
abbrev pub address_test : Side → Bool × List Address → OptionValue
address_test side p = Test (item.Address (record { side = side; negated = p.0; count = length p.1 })) p.1

abbrev pub address_form : Side → Form OptionValue
address_form side = valued (fmap (address_test side) (pair negation addresses))

-- same_ip: none
abbrev pub same_ip_form : Form OptionValue
same_ip_form = closed (pure (test item.SameIp))

-- ip_id, src_port, dst_port: 0..65535; ip_tos: 0..255
abbrev pub max_number : NumberField → ℕ
max_number number_field.IpId = max_word
max_number number_field.SourcePort = max_word
max_number number_field.DestinationPort = max_word
max_number number_field.Tos = max_byte

-- src_port, dst_port, ip_tos; for ip_id see `ip_id_form`
abbrev pub number_form : NumberField → Form OptionValue
number_form f = valued (fmap (λ (n : ℕ). test (item.Number (record { field = f; number = n }))) (number (max_number f)))

-- optional `<` or `>`
abbrev pub less_or_greater : Form Order
less_or_greater = or (literal_as 60 order.Less) (literal_as 62 order.Greater)

-- ip_ttl: optional `<` or `>`, 0..255
abbrev pub ttl_form : Form OptionValue
ttl_form =
    valued (fmap (λ (p : Order × ℕ). test (item.Ttl (record { order = p.0; number = p.1 })))
    (pair (opt order.Equal less_or_greater) (number max_byte)))

-- ip.total_length, ip.id, ip.checksum (to 65535), ip.ttl (to 255): the limit of mask and number, which is the full mask too
abbrev pub max_field : HeaderField → ℕ
max_field header_field.TotalLength = max_word
max_field header_field.Id = max_word
max_field header_field.Checksum = max_word
max_field header_field.Ttl = max_byte

-- one of `= != < > <= >=`
abbrev pub comparison : Form Operator
comparison =
    or (literal_as 61 operator.Equal)
    (or (preceded (literal 33) (literal_as 61 operator.Unequal))
    (or (preceded (literal 60) (opt operator.Less (literal_as 61 operator.AtMost)))
    (preceded (literal 62) (opt operator.Greater (literal_as 61 operator.AtLeast)))))

-- optional `&` and mask, then the comparison, then a number, limited as the mask is; spaces allowed between these tokens.
-- A missing mask is the full mask
abbrev pub field_form : HeaderField → Form OptionValue
field_form f =
    valued (fmap (λ (p : ℕ × (Operator × ℕ)). test (item.Field (record { field = f; mask = p.0; operator = p.1.0; number = p.1.1 })))
    (pair (opt (max_field f) (preceded (literal 38) (preceded spaces (terminated (numeral (max_field f)) spaces))))
    (pair (terminated comparison spaces) (numeral (max_field f)))))

-- the field is equal to the number: `=`, and the full mask
abbrev pub field_equals : HeaderField → ℕ → FieldTest
field_equals f n = record { field = f; mask = max_field f; operator = operator.Equal; number = n }

-- ip_id: one number, as in document 01, read as `--ip.id = N` (document 02, T-09)
abbrev pub ip_id_form : Form OptionValue
ip_id_form = valued (fmap (λ (n : ℕ). test (item.Field (field_equals header_field.Id n))) (number (max_number number_field.IpId)))

-- data_size: optional `<`, `>` or `=`, 0..65535, optional `,` and `payload`, `uri`, `header` or `body`
abbrev pub size_form : Form OptionValue
size_form =
    valued (fmap (λ (p : Order × (ℕ × SizeField)). test (item.Size (record { order = p.0; number = p.1.0; field = p.1.1 })))
    (pair (opt order.Equal (or less_or_greater (literal_as 61 order.Equal)))
    (pair (number max_word)
    (comma size_field.Payload
    (or (keyword (text "payload") size_field.Payload)
    (or (keyword (text "uri") size_field.Uri)
    (or (keyword (text "header") size_field.Header)
    (keyword (text "body") size_field.Body))))))))

-- data_at: 0..65535, optional `,relative`
abbrev pub at_form : Form OptionValue
at_form =
    valued (fmap (λ (p : ℕ × Bool). test (item.At (record { number = p.0; relative = p.1 })))
    (pair (number max_word) (comma false (keyword (text "relative") true))))

-- byte_test (document 02, T-01), its parts parted by commas: byte count 1, 2 or 4; one of `>`, `<`, `=`, `!`; a value to 4,294,967,295 in decimal or hex;
-- an offset 0..65535; then optional `,relative`, and with or without it optional `,little`
abbrev pub width : Form Width
width = fmap width_of (number_that is_byte_count)

abbrev pub byte_comparison : Form ByteOperator
byte_comparison =
    or (literal_as 62 byte_operator.Greater)
    (or (literal_as 60 byte_operator.Less)
    (or (literal_as 61 byte_operator.Equal)
    (literal_as 33 byte_operator.Unequal)))

-- whether `relative` stands there, and whether `little` does
abbrev pub flag_words : Form (Bool × Bool)
flag_words = or (pair (keyword (text "relative") true) (comma false (keyword (text "little") true))) (keyword (text "little") (false, true))

abbrev pub flags : Form (Bool × Bool)
flags = comma (false, false) flag_words

-- a part and the comma after it
abbrev pub part : {A : Type 0} → Form A → Form A
part f = terminated f (literal 44)

abbrev pub byte_test : Width × (ByteOperator × (ℕ × (ℕ × (Bool × Bool)))) → OptionValue
byte_test p =
    test (item.Byte (record {
      width = p.0;
      operator = p.1.0;
      value = p.1.1.0;
      offset = p.1.1.1.0;
      relative = p.1.1.1.1.0;
      little = p.1.1.1.1.1;
    }))

abbrev pub byte_form : Form OptionValue
byte_form = valued (fmap byte_test (pair (part width) (pair (part byte_comparison) (pair (part (numeral max_long)) (pair (number max_word) flags)))))

-- a block is `|`, one or more pairs of hex digits, any spaces before, between and after pairs, `|`
abbrev pub hex_pair : Form ℕ
hex_pair = fmap (λ (p : ℕ × ℕ). digit_value p.0 * 16 + digit_value p.1) (pair (byte hex_digits) (byte hex_digits))

abbrev pub block : Form (List ℕ)
block = preceded (literal 124) (preceded spaces (terminated (some (terminated hex_pair spaces)) (literal 124)))

-- the bytes `" ; \ | :` are written only in hex blocks; the other bytes of a text stand for themselves
abbrev pub plain_bytes : Class
plain_bytes = (32, 33) ∷ (35, 57) ∷ (60, 91) ∷ (93, 123) ∷ (125, 126) ∷ []

abbrev pub concatenated : List (List ℕ) → List ℕ
concatenated [] = []
concatenated (x ∷ xs) = x ++ concatenated xs

abbrev pub pattern_bytes : Form (List ℕ)
pattern_bytes = fmap concatenated (some (or (fmap (λ (b : ℕ). b ∷ []) (byte plain_bytes)) block))

-- pattern: optional `!`, then at least one byte in `"`
abbrev pub pattern_form : Form OptionValue
pattern_form =
    valued (fmap (λ (p : Bool × List ℕ). Pattern p.0 p.1)
    (pair negation (preceded (literal 34) (terminated pattern_bytes (literal 34)))))

-- context: `packet`, `uri`, `header`, `body`, `banner`, `host`, `file`; words with the same first letter are parted after it
abbrev pub context_form : Form OptionValue
context_form =
    valued (fmap (λ (c : contexts.Context). Modified (Context c))
    (or (keyword (text "packet") context.Packet)
    (or (keyword (text "uri") context.Uri)
    (or (preceded (word (text "h")) (or (keyword (text "eader") context.Header) (keyword (text "ost") context.Host)))
    (or (preceded (word (text "b")) (or (keyword (text "ody") context.Body) (keyword (text "anner") context.Banner)))
    (keyword (text "file") context.File))))))

-- no_case: none
abbrev pub no_case_form : Form OptionValue
no_case_form = closed (pure (Modified NoCase))

-- `match`, `packet` or `context`
abbrev pub reference_word : Form Reference
reference_word = or (keyword (text "match") reference.Match) (or (keyword (text "packet") reference.Packet) (keyword (text "context") reference.Context))

-- `-` and a number; -0 is 0
abbrev pub signed : Bool → ℕ → ℤ
signed minus n = if minus then neg_ℤ (pos n) else pos n

-- distance: optional `-`, 0..65535, optional `,` and `match`, `packet` or `context`, only then optional `,reverse`
abbrev pub distance_form : Form OptionValue
distance_form =
    valued (fmap (λ (p : Bool × (ℕ × (Reference × Bool))). Modified
    (Distance (record { offset = signed p.0 p.1.0; reference = p.1.1.0; reverse = p.1.1.1 })))
    (pair (opt false (literal_as 45 true))
    (pair (number max_word)
    (comma (reference.Match, false) (pair reference_word (comma false (keyword (text "reverse") true)))))))

-- within: 0..65535, optional `,` and `match`, `packet` or `context`
abbrev pub within_form : Form OptionValue
within_form =
    valued (fmap (λ (p : ℕ × Reference). Modified (Within (record { number = p.0; reference = p.1 })))
    (pair (number max_word) (comma reference.Match reference_word)))
