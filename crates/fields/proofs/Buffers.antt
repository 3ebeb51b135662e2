-- The buffer named is the definitions' buffer, so a part of it is the field's, and what passes it passes.
use mathlib.Core.Path.{◌≡◌, refl, ap, ◌∙◌, subst}
use mathlib.Core.List.{List}
use Prim.Native.Nat.{ℕ}
use denote.Ref.{Bor}
use Rattle.definitions.specs.declared.table.Context.{Context}
use Rattle.definitions.specs.declared.table.Context.TheVariants as context
use Rattle.definitions.specs.declared.packets.FieldMap.{FieldMap}
use Rattle.definitions.specs.Fields.{buffer_of, span_of, shown, cut, field_span, field_of}
use Rattle.field_parts.specs.Parts.{PartOf}
use Rattle.fields.specs.Places.{own_buffer}

-- `own_buffer` takes of any two the one that `buffer_of` takes
pub buffer_buffer : {A : Type 0} (f : A → List ℕ) (payload decoded : A) (c : Context) → f (own_buffer payload decoded c) ≡ buffer_of (f payload) (f decoded) c
buffer_buffer f payload decoded context.Packet = refl
buffer_buffer f payload decoded context.Uri = refl
buffer_buffer f payload decoded context.Header = refl
buffer_buffer f payload decoded context.Body = refl
buffer_buffer f payload decoded context.Banner = refl
buffer_buffer f payload decoded context.Host = refl
buffer_buffer f payload decoded context.File = refl

module _ (payload decoded r : Bor (List ℕ)) (m : FieldMap) (c : Context) where
  pub field_part : PartOf (own_buffer payload decoded c) (shown (span_of payload.now m c) (own_buffer payload decoded c).now) r
      → PartOf (own_buffer payload decoded c) (field_span payload.now decoded.now m c) r
  field_part h = subst (λ (b : List ℕ). PartOf (own_buffer payload decoded c) (shown (span_of payload.now m c) b) r) (buffer_buffer (λ x. x.now) payload decoded c) h

  pub field_bytes_lem : PartOf (own_buffer payload decoded c) (field_span payload.now decoded.now m c) r → r.now ≡ field_of payload.now decoded.now m c
  unfolding field_of
  field_bytes_lem h = h.bytes ∙ ap (cut (field_span payload.now decoded.now m c)) (buffer_buffer (λ x. x.now) payload decoded c)
