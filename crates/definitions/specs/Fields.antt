-- The fields, the entry that returns a field's bytes, and refusal 35. Section "Packet and fields".
use Rattle.std.specs.Prelude.{ℕ, ◌+◌, Bool, true, false, List, [], ◌∷◌, length, take, drop, ltb, if◌then◌else◌, Option, Some, None, Result, Ok}
use Rattle.definitions.specs.declared.table.Context.{Context}
use Rattle.definitions.specs.declared.table.Context.TheVariants as context
use Rattle.definitions.specs.declared.table.SizeField.{SizeField}
use Rattle.definitions.specs.declared.table.SizeField.TheVariants as size_field
use Rattle.definitions.specs.declared.packets.Span.{Span}
use Rattle.definitions.specs.declared.packets.FieldMap.{FieldMap}
use Rattle.definitions.specs.declared.packets.PacketHeader.{PacketHeader}
use Rattle.definitions.specs.declared.answers.Refusal.TheVariants as refusal
use Rattle.definitions.specs.declared.answers.Refusal.{Refusal}
use Rattle.definitions.specs.Lists.{any?}
use Rattle.definitions.specs.Refusals.{refuse_if}
use Rattle.definitions.specs.Packet.{datagram_of, header_of, payload_of}

-- body, banner and file lie in the payload, as context packet does; uri, header and host in the decoded buffer
abbrev pub buffer_of : List ℕ → List ℕ → Context → List ℕ
buffer_of payload decoded context.Packet = payload
buffer_of payload decoded context.Uri = decoded
buffer_of payload decoded context.Header = decoded
buffer_of payload decoded context.Body = payload
buffer_of payload decoded context.Banner = payload
buffer_of payload decoded context.Host = decoded
buffer_of payload decoded context.File = payload

-- context packet is the payload, always present
abbrev pub span_of : List ℕ → FieldMap → Context → Option Span
span_of payload m context.Packet = Some (record { start = 0; len = length payload })
span_of payload m context.Uri = m.uri
span_of payload m context.Header = m.header
span_of payload m context.Body = m.body
span_of payload m context.Banner = m.banner
span_of payload m context.Host = m.host
span_of payload m context.File = m.file

abbrev pub is_at : Option Span → Bool
is_at None = false
is_at (Some sp) = true

-- a present span passes its buffer
abbrev pub passes : Option Span → List ℕ → Bool
passes None b = false
passes (Some sp) b = ltb (length b) (sp.start + sp.len)

-- the span's part of its buffer; absent, or past its buffer, the empty part at the buffer's start
abbrev pub shown : Option Span → List ℕ → Span
shown None b = record { start = 0; len = 0 }
shown (Some sp) b = if passes (Some sp) b then record { start = 0; len = 0 } else sp

abbrev pub cut : Span → List ℕ → List ℕ
cut sp b = take sp.len (drop sp.start b)

-- THE FIELD ENTRY: where the field's part stands in its buffer, and its bytes
abbrev pub field_span : List ℕ → List ℕ → FieldMap → Context → Span
field_span payload decoded m c = shown (span_of payload m c) (buffer_of payload decoded c)

unfoldable pub field_of : List ℕ → List ℕ → FieldMap → Context → List ℕ
field_of payload decoded m c = cut (field_span payload decoded m c) (buffer_of payload decoded c)

unfoldable pub present : FieldMap → Context → Bool
present m c = is_at (span_of [] m c)

-- 35: a present field's span passes its buffer
abbrev pub field_passes : List ℕ → List ℕ → FieldMap → Context → Bool
field_passes payload decoded m c = passes (span_of payload m c) (buffer_of payload decoded c)

abbrev pub mapped : List Context
mapped = context.Uri ∷ context.Header ∷ context.Body ∷ context.Banner ∷ context.Host ∷ context.File ∷ []

unfoldable pub fields_check : List ℕ → List ℕ → FieldMap → Result Unit Refusal
fields_check payload decoded m = refuse_if (any? (field_passes payload decoded m) mapped) refusal.FieldSpan (Ok tt)

-- the field of data_size
abbrev pub size_context : SizeField → Context
size_context size_field.Payload = context.Packet
size_context size_field.Uri = context.Uri
size_context size_field.Header = context.Header
size_context size_field.Body = context.Body

-- ALL THAT A VERDICT SEES where nothing is refused, besides the table, the direction and an earlier placement: the datagram's header fields,
-- which fields are present, and the bytes of each; an absent field has none
pub record View : Type 0 where
  pub header : PacketHeader
  pub present : Context → Bool
  pub field : Context → List ℕ

abbrev pub view_of : List ℕ → List ℕ → FieldMap → View
view_of p decoded m =
    record {
      header = header_of (datagram_of p);
      present = present m;
      field = field_of (payload_of (datagram_of p)) decoded m;
    }
