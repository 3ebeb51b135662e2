-- The numbers of a map of its form are at most 65535: each field that is entered has a span of its form, and the other fields stay.
use Rattle.std.specs.Prelude.{Option, Some, None}
use mathlib.Core.Path.{◌≡◌}
use mathlib.Core.Bool.{true, not, ◌&&◌}
use mathlib.Core.List.{List, [], ◌∷◌}
use Prim.Native.Nat.{ℕ, ◌≤◌}
use native.Mathlib.Omega.{arith}
use Rattle.forms.specs.Bytes.{text}
use Rattle.forms.proofs.Bools.{by_cases, both_left, both_right}
use Rattle.definitions.specs.declared.table.Context.{Context}
use Rattle.definitions.specs.declared.table.Context.TheVariants as context
use Rattle.definitions.specs.declared.packets.FieldMap.{FieldMap}
use Rattle.definitions.specs.declared.packets.Span.{Span}
use Rattle.definitions.specs.Lists.{same_bytes}
use Rattle.definitions.specs.Numbers.{is_number}
use Rattle.definitions.specs.Fields.{present}
use Rattle.definitions.specs.Parts.{contains, parts}
use Rattle.line_numbers.proofs.Digits.{number_le}
use Rattle.line_fields.specs.FieldMaps.{max_span, field_named, no_fields, with_field, start_in, length_in, is_span, line_span, field_name_in, span_in}
use Rattle.line_fields.specs.FieldMaps.{is_field, insert_field, are_fields, map_from, is_map, map_of}

-- start and length of a field; zeros where it is absent
abbrev pub start_of : Option Span → ℕ
start_of None = 0
start_of (Some s) = s.start

abbrev pub length_of : Option Span → ℕ
length_of None = 0
length_of (Some s) = s.len

pub record SpanSmall (f : Option Span) : Type 0 where
  pub start : start_of f ≤ max_span
  pub len : length_of f ≤ max_span

pub record MapSmall (m : FieldMap) : Type 0 where
  pub uri : SpanSmall m.uri
  pub header : SpanSmall m.header
  pub body : SpanSmall m.body
  pub banner : SpanSmall m.banner
  pub host : SpanSmall m.host
  pub file : SpanSmall m.file

-- ---- a span

absent_small : SpanSmall None
absent_small = record { start = omega arith; len = omega arith }

span_small : (s : List ℕ) → is_span s ≡ true → SpanSmall (Some (line_span s))
unfolding is_span line_span
span_small s t =
    let first = is_number max_span (start_in s) in
    let second = is_number max_span (length_in s) in
    let both : (first && second) ≡ true = both_right (contains 43 s) (first && second) t in
    record { start = number_le max_span (start_in s) (both_left first second both); len = number_le max_span (length_in s) (both_right first second both) }

-- ---- a field more

with_small : (m : FieldMap) (c : Context) (f : Option Span) → MapSmall m → SpanSmall f → MapSmall (with_field m c f)
with_small m context.Packet f w s = w
with_small m context.Uri f w s = record { uri = s; header = w.header; body = w.body; banner = w.banner; host = w.host; file = w.file }
with_small m context.Header f w s = record { uri = w.uri; header = s; body = w.body; banner = w.banner; host = w.host; file = w.file }
with_small m context.Body f w s = record { uri = w.uri; header = w.header; body = s; banner = w.banner; host = w.host; file = w.file }
with_small m context.Banner f w s = record { uri = w.uri; header = w.header; body = w.body; banner = s; host = w.host; file = w.file }
with_small m context.Host f w s = record { uri = w.uri; header = w.header; body = w.body; banner = w.banner; host = s; file = w.file }
with_small m context.File f w s = record { uri = w.uri; header = w.header; body = w.body; banner = w.banner; host = w.host; file = s }

insert_small : (m : FieldMap) (e : List ℕ) → is_field m e ≡ true → MapSmall m → MapSmall (insert_field m e)
unfolding is_field insert_field
insert_small m e t w =
    let new = not (present m (field_named (field_name_in e))) in
    let span = is_span (span_in e) in
    with_small m (field_named (field_name_in e)) (Some (line_span (span_in e))) w
    (span_small (span_in e) (both_right new span (both_right (contains 58 e) (new && span) t)))

-- ---- all of them

fields_small : (m : FieldMap) (es : List (List ℕ)) → are_fields m es ≡ true → MapSmall m → MapSmall (map_from m es)
unfolding are_fields map_from
fields_small m [] t w = w
fields_small m (e ∷ es) t w =
    let rest = are_fields (insert_field m e) es in
    fields_small (insert_field m e) es (both_right (is_field m e) rest t) (insert_small m e (both_left (is_field m e) rest t) w)

none_small : MapSmall no_fields
none_small =
    record { uri = absent_small; header = absent_small; body = absent_small; banner = absent_small; host = absent_small; file = absent_small }

pub map_small : (l : List ℕ) → is_map l ≡ true → MapSmall (map_of l)
unfolding is_map map_of
map_small l t =
    by_cases (same_bytes l (text "-"))
    (λ dash. rw dash none_small)
    (λ f. rw f (fields_small no_fields (parts 44 l) (rw f at t) none_small))
