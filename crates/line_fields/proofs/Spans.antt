-- A span, from the answers for its two numbers.
use Rattle.std.specs.Prelude.{Option, Some, None, ℕ}
use mathlib.Core.Path.{◌≡◌, sym, ap, ◌∙◌}
use mathlib.Core.Bool.{true, false, false≢true, ◌&&◌, and-false}
use mathlib.Core.List.{List}
use Prim.Native.Nat.{ℕ}
use Rattle.forms.proofs.Bools.{by_cases}
use Rattle.definitions.specs.declared.packets.Span.{Span}
use Rattle.definitions.specs.Parts.{contains, part_before, part_after}
use Rattle.line_parts.proofs.Delimiters.{after_empty}
use Rattle.line_parts.proofs.Results.{failed_test, parsed_test, parsed_value}
use Rattle.definitions.specs.Numbers.{is_number}
use Rattle.line_numbers.specs.Decimals.{parsed_number}
use Rattle.line_numbers.proofs.Results.{failed_number, parsed_number_lem, number_value}
use Rattle.line_fields.specs.FieldMaps.{max_span, is_span, line_span, parsed_span}

-- digits of a length stand after a `+`
span_is : (s : List ℕ) → is_span s ≡ (is_number max_span (part_before 43 s) && is_number max_span (part_after 43 s))
unfolding is_span is_number
span_is s =
    by_cases (contains 43 s)
    (λ t. rw t)
    (λ f. rw (f, after_empty 43 s f) (sym (and-false (is_number max_span (part_before 43 s)))))

-- x and y are what stands before and after the `+`; a and b what the code made of them
module _ (s x : List ℕ) (xe : x ≡ part_before 43 s) (a : Option ℕ) (p : a ≡ parsed_number max_span x) where
  pub no_start : a ≡ None → None ≡ parsed_span s
  unfolding parsed_span
  no_start f = rw (span_is s, ap (is_number max_span) (sym xe) ∙ failed_number max_span x (sym p ∙ f))

  module _ (v : ℕ) (t : a ≡ Some v) (y : List ℕ) (ye : y ≡ part_after 43 s) (b : Option ℕ) (q : b ≡ parsed_number max_span y) where
    now_length : is_span s ≡ is_number max_span y
    now_length = span_is s ∙ rw (ap (is_number max_span) (sym xe) ∙ parsed_number_lem max_span x v (sym p ∙ t), ye)

    pub no_length : b ≡ None → None ≡ parsed_span s
    unfolding parsed_span
    no_length f = rw (now_length ∙ failed_number max_span y (sym q ∙ f))

    pub one_span : (w : ℕ) → b ≡ Some w → Some (record { start = v; len = w }) ≡ parsed_span s
    unfolding parsed_span line_span
    one_span w u =
        rw (now_length ∙ parsed_number_lem max_span y w (sym q ∙ u), number_value max_span x v (sym p ∙ t), number_value max_span y w (sym q ∙ u), xe, ye)

-- ---- what the answer for a span tells of the bytes

apart : (v : Span) → Some v ≡ None → ⊥
apart v e = false≢true cc

same : (v w : Span) → Some v ≡ Some w → v ≡ w
same v w e = cc

module _ (s : List ℕ) where
  pub failed_span : parsed_span s ≡ None → is_span s ≡ false
  unfolding parsed_span
  failed_span e = failed_test Some None apart (is_span s) (line_span s) e

  module _ (v : Span) (e : parsed_span s ≡ Some v) where
    pub parsed_span_lem : is_span s ≡ true
    unfolding parsed_span
    parsed_span_lem = parsed_test Some None apart (is_span s) (line_span s) v e

    pub span_value : v ≡ line_span s
    unfolding parsed_span
    span_value = sym (parsed_value Some None apart same (is_span s) (line_span s) v e)
