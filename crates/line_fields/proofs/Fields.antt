-- One field of a map, and the fields one after the other.
use Rattle.std.specs.Prelude.{Option, Some, None}
use mathlib.Core.Path.{◌≡◌, refl, sym, ap, ◌∙◌}
use mathlib.Core.Bool.{true, false, false≢true, not, ◌&&◌, and-false}
use mathlib.Core.List.{List, [], ◌∷◌}
use Prim.Native.Nat.{ℕ}
use Rattle.forms.specs.Bytes.{text, run}
use Rattle.forms.proofs.Bools.{by_cases}
use Rattle.definitions.specs.declared.table.Context.{Context}
use Rattle.definitions.specs.declared.packets.Span.{Span}
use Rattle.definitions.specs.declared.packets.FieldMap.{FieldMap}
use Rattle.definitions.specs.Fields.{present}
use Rattle.definitions.specs.Lists.{same_bytes}
use Rattle.definitions.specs.Parts.{find, contains, part_before, part_after, parts}
use Rattle.line_parts.proofs.Delimiters.{after_empty}
use Rattle.line_parts.proofs.Results.{failed_test, parsed_test, parsed_value}
use Rattle.line_fields.specs.FieldMaps.{field_named, no_fields, with_field, is_span, line_span, is_field, insert_field, are_fields, map_from, is_map, map_of}
use Rattle.line_fields.specs.FieldMaps.{parsed_span, parsed_field, parsed_fields, parsed_map}
use Rattle.line_fields.proofs.Spans.{failed_span, parsed_span_lem, span_value}

-- ---- one field

no_span : is_span [] ≡ false
unfolding is_span contains find run
no_span = refl

-- a span stands after a `:`
field_is : (m : FieldMap) (e : List ℕ) → is_field m e ≡ (not (present m (field_named (part_before 58 e))) && is_span (part_after 58 e))
unfolding is_field
field_is m e =
    by_cases (contains 58 e)
    (λ t. rw t)
    (λ f. rw (f, ap is_span (after_empty 58 e f) ∙ no_span) (sym (and-false (not (present m (field_named (part_before 58 e)))))))

-- x and y are what stands before and after the `:`; field and a what the code made of them
module _ (m : FieldMap) (e x : List ℕ) (xe : x ≡ part_before 58 e) (field : Context) (fe : field ≡ field_named x) where
  named : field ≡ field_named (part_before 58 e)
  named = fe ∙ ap field_named xe

  pub given_already : present m field ≡ true → None ≡ parsed_field m e
  unfolding parsed_field
  given_already t = rw (field_is m e, ap (present m) (sym named) ∙ t)

  module _ (free : present m field ≡ false) (y : List ℕ) (ye : y ≡ part_after 58 e) (a : Option Span) (p : a ≡ parsed_span y) where
    now_span : is_field m e ≡ is_span y
    now_span = field_is m e ∙ rw (ap (present m) (sym named) ∙ free, ye)

    pub no_span_there : a ≡ None → None ≡ parsed_field m e
    unfolding parsed_field
    no_span_there f = rw (now_span ∙ failed_span y (sym p ∙ f))

    pub one_field : (v : Span) → a ≡ Some v → (after : FieldMap) → after ≡ with_field m field (Some v) → Some after ≡ parsed_field m e
    unfolding parsed_field insert_field
    one_field v t after ae =
        let value : v ≡ line_span (part_after 58 e) = span_value y v (sym p ∙ t) ∙ ap line_span ye in
        let whole : after ≡ with_field m (field_named (part_before 58 e)) (Some (line_span (part_after 58 e))) =
        ae ∙ ap (λ (c : Context). with_field m c (Some v)) named ∙ ap (λ (w : Span). with_field m (field_named (part_before 58 e)) (Some w)) value in
        rw (now_span ∙ parsed_span_lem y v (sym p ∙ t)) (ap Some whole)

-- ---- the fields in a row

apart : (m : FieldMap) → Some m ≡ None → ⊥
apart m e = false≢true cc

same : (m n : FieldMap) → Some m ≡ Some n → m ≡ n
same m n e = cc

module _ (m : FieldMap) (e : List ℕ) (es : List (List ℕ)) where
  fields_halt : parsed_field m e ≡ None → parsed_fields m (e ∷ es) ≡ None
  unfolding parsed_field parsed_fields are_fields
  fields_halt f = rw (failed_test Some None apart (is_field m e) (insert_field m e) f)

  fields_on : (n : FieldMap) → parsed_field m e ≡ Some n → parsed_fields m (e ∷ es) ≡ parsed_fields n es
  unfolding parsed_field parsed_fields are_fields map_from
  fields_on n t =
      rw (parsed_test Some None apart (is_field m e) (insert_field m e) n t, parsed_value Some None apart same (is_field m e) (insert_field m e) n t)

-- the fields es are still to come, after those that made the map m
abbrev pub Inserting : List ℕ → FieldMap → List (List ℕ) → Type 0
Inserting s m es = parsed_fields no_fields (parts 44 s) ≡ parsed_fields m es

pub inserting_start : (s : List ℕ) (m : FieldMap) (es : List (List ℕ)) → m ≡ no_fields → es ≡ parts 44 s → Inserting s m es
inserting_start s m es e f = rw (e, f)

module _ (s : List ℕ) (m : FieldMap) (es : List (List ℕ)) (k : Inserting s m es) where
  module _ (e : List ℕ) (rest : List (List ℕ)) (q : es ≡ e ∷ rest) (a : Option FieldMap) (p : a ≡ parsed_field m e) where
    pub inserting_halt : a ≡ None → None ≡ parsed_fields no_fields (parts 44 s)
    inserting_halt f = sym (k ∙ ap (parsed_fields m) q ∙ fields_halt m e rest (sym p ∙ f))

    pub inserting_on : (n : FieldMap) → a ≡ Some n → Inserting s n rest
    inserting_on n t = k ∙ ap (parsed_fields m) q ∙ fields_on m e rest n (sym p ∙ t)

  pub inserting_out : es ≡ [] → Some m ≡ parsed_fields no_fields (parts 44 s)
  unfolding parsed_fields are_fields map_from
  inserting_out q = sym (k ∙ ap (parsed_fields m) q)

-- ---- the map

module _ (l : List ℕ) where
  pub no_map : same_bytes l (text "-") ≡ true → (m : FieldMap) → m ≡ no_fields → Some m ≡ parsed_map l
  unfolding parsed_map is_map map_of
  no_map t m e = rw (t, e)

  pub some_map : same_bytes l (text "-") ≡ false → (a : Option FieldMap) → a ≡ parsed_fields no_fields (parts 44 l) → a ≡ parsed_map l
  unfolding parsed_map parsed_fields is_map map_of
  some_map f a e = rw f e
