-- THE MAP OF A PACKET'S FIELDS: fields such as `uri:0+12` parted by commas, `-` if there is none. In numbers `+` is 43, a comma 44, `:` 58.
use Rattle.std.specs.Prelude.{ℕ, Bool, true, not, ◌&&◌, ◌||◌, List, [], ◌∷◌, if◌then◌else◌, Option, Some, None}
use Rattle.forms.specs.Bytes.{text}
use Rattle.definitions.specs.declared.table.Context.{Context}
use Rattle.definitions.specs.declared.table.Context.TheVariants as context
use Rattle.definitions.specs.declared.packets.Span.{Span}
use Rattle.definitions.specs.declared.packets.FieldMap.{FieldMap}
use Rattle.definitions.specs.Lists.{same_bytes}
use Rattle.definitions.specs.Numbers.{value_of, is_number}
use Rattle.definitions.specs.Fields.{present}
use Rattle.definitions.specs.Parts.{contains, part_before, part_after, parts}

-- the largest start, and length
abbrev pub max_span : ℕ
max_span = 65535

-- the field of a name; the payload, which no map gives, for any other
unfoldable pub field_named : List ℕ → Context
field_named l =
    if same_bytes l (text "uri") then context.Uri
    else if same_bytes l (text "header") then context.Header
    else if same_bytes l (text "body") then context.Body
    else if same_bytes l (text "banner") then context.Banner
    else if same_bytes l (text "host") then context.Host
    else if same_bytes l (text "file") then context.File
    else context.Packet

abbrev pub no_fields : FieldMap
no_fields = record { uri = None; header = None; body = None; banner = None; host = None; file = None }

abbrev pub with_field : FieldMap → Context → Option Span → FieldMap
with_field m context.Packet f = m
with_field m context.Uri f = record { uri = f; header = m.header; body = m.body; banner = m.banner; host = m.host; file = m.file }
with_field m context.Header f = record { uri = m.uri; header = f; body = m.body; banner = m.banner; host = m.host; file = m.file }
with_field m context.Body f = record { uri = m.uri; header = m.header; body = f; banner = m.banner; host = m.host; file = m.file }
with_field m context.Banner f = record { uri = m.uri; header = m.header; body = m.body; banner = f; host = m.host; file = m.file }
with_field m context.Host f = record { uri = m.uri; header = m.header; body = m.body; banner = m.banner; host = f; file = m.file }
with_field m context.File f = record { uri = m.uri; header = m.header; body = m.body; banner = m.banner; host = m.host; file = f }

-- a span: start, `+`, length
abbrev pub start_in : List ℕ → List ℕ
start_in s = part_before 43 s

abbrev pub length_in : List ℕ → List ℕ
length_in s = part_after 43 s

unfoldable pub is_span : List ℕ → Bool
is_span s = contains 43 s && (is_number max_span (start_in s) && is_number max_span (length_in s))

unfoldable pub line_span : List ℕ → Span
line_span s = record { start = value_of 10 0 (start_in s); len = value_of 10 0 (length_in s) }

-- a field: name, `:`, span
abbrev pub field_name_in : List ℕ → List ℕ
field_name_in e = part_before 58 e

abbrev pub span_in : List ℕ → List ℕ
span_in e = part_after 58 e

-- a field after those that made the map m: it is none of these. The payload is always present
unfoldable pub is_field : FieldMap → List ℕ → Bool
is_field m e = contains 58 e && (not (present m (field_named (field_name_in e))) && is_span (span_in e))

unfoldable pub insert_field : FieldMap → List ℕ → FieldMap
insert_field m e = with_field m (field_named (field_name_in e)) (Some (line_span (span_in e)))

unfoldable pub are_fields : FieldMap → List (List ℕ) → Bool
are_fields m [] = true
are_fields m (e ∷ es) = is_field m e && are_fields (insert_field m e) es

unfoldable pub map_from : FieldMap → List (List ℕ) → FieldMap
map_from m [] = m
map_from m (e ∷ es) = map_from (insert_field m e) es

unfoldable pub is_map : List ℕ → Bool
is_map l = same_bytes l (text "-") || are_fields no_fields (parts 44 l)

unfoldable pub map_of : List ℕ → FieldMap
map_of l = if same_bytes l (text "-") then no_fields else map_from no_fields (parts 44 l)

-- ---- the code's answers

unfoldable pub parsed_span : List ℕ → Option Span
parsed_span s = if is_span s then Some (line_span s) else None

unfoldable pub parsed_field : FieldMap → List ℕ → Option FieldMap
parsed_field m e = if is_field m e then Some (insert_field m e) else None

unfoldable pub parsed_fields : FieldMap → List (List ℕ) → Option FieldMap
parsed_fields m es = if are_fields m es then Some (map_from m es) else None

unfoldable pub parsed_map : List ℕ → Option FieldMap
parsed_map l = if is_map l then Some (map_of l) else None
