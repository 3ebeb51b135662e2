-- The words of options' values, as they stand in definitions' forms.
use Rattle.std.specs.Prelude.{ℕ}
use Rattle.forms.specs.Bytes.{text}
use Rattle.forms.specs.Form.{Form}
use Rattle.forms.specs.Pieces.{preceded, or, keyword, word}
use Rattle.definitions.specs.declared.table.Flow.{Flow}
use Rattle.definitions.specs.declared.table.Flow.TheVariants as flow
use Rattle.definitions.specs.declared.table.SizeField.{SizeField}
use Rattle.definitions.specs.declared.table.SizeField.TheVariants as size_fields
use Rattle.definitions.specs.declared.table.Context.{Context}
use Rattle.definitions.specs.declared.table.Context.TheVariants as context
use Rattle.definitions.specs.Limits.{max_byte}
use Rattle.definitions.specs.Numbers.{number}

abbrev pub protocol_value : Form ℕ
protocol_value = or (keyword (text "tcp") 6) (or (keyword (text "udp") 17) (or (keyword (text "icmp") 1) (number max_byte)))

abbrev pub flow_word : Form Flow
flow_word = preceded (word (text "from_")) (or (keyword (text "client") flow.FromClient) (keyword (text "server") flow.FromServer))

abbrev pub size_word : Form SizeField
size_word =
    or (keyword (text "payload") size_fields.Payload)
    (or (keyword (text "uri") size_fields.Uri)
    (or (keyword (text "header") size_fields.Header)
    (keyword (text "body") size_fields.Body)))

abbrev pub h_word : Form Context
h_word = preceded (word (text "h")) (or (keyword (text "eader") context.Header) (keyword (text "ost") context.Host))

abbrev pub b_word : Form Context
b_word = preceded (word (text "b")) (or (keyword (text "ody") context.Body) (keyword (text "anner") context.Banner))

abbrev pub context_word : Form Context
context_word =
    or (keyword (text "packet") context.Packet)
    (or (keyword (text "uri") context.Uri)
    (or h_word
    (or b_word
    (keyword (text "file") context.File))))
