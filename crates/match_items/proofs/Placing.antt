-- A negated pattern, by whether its field is present; a field is no longer than its buffer.
use Rattle.std.specs.Prelude.{Option}
use mathlib.Core.Path.{◌≡◌, refl}
use mathlib.Core.Bool.{Bool, true, false}
use mathlib.Core.List.{List, [], ◌∷◌, map}
use Prim.Native.Nat.{ℕ, suc, ◌≤◌, ◌<◌}
use native.Mathlib.Omega.{arith}
use lib.ListN.{length, drop, length-take, length-drop}
use Rattle.definitions.specs.declared.table.Context.{Context}
use Rattle.definitions.specs.declared.table.Context.TheVariants as context
use Rattle.definitions.specs.declared.table.Pattern.{Pattern}
use Rattle.definitions.specs.declared.packets.PacketHeader.{PacketHeader}
use Rattle.definitions.specs.declared.packets.FieldMap.{FieldMap}
use Rattle.definitions.specs.declared.packets.Span.{Span}
use Rattle.definitions.specs.declared.packets.Start.{Start}
use Rattle.definitions.specs.declared.packets.Match.{Match}
use Rattle.definitions.specs.Lists.{keep, keep_one, none?}
use Rattle.definitions.specs.Starts.{start_at}
use Rattle.definitions.specs.Fields.{present, buffer_of, field_span, field_of, cut}
use Rattle.definitions.specs.Windows.{lies}
use Rattle.definitions.specs.Placements.{up_from, lies_in, starts, unmatched_holds}
use Rattle.match_windows.specs.Spans.{size_bound, Measured, places_of}
use Rattle.fields.specs.Seen.{seen}
use Rattle.match_items.specs.Bounds.{Bounded}

-- ---- lengths

cut_short : (sp : Span) (b : List ℕ) → length (cut sp b) ≤ length b
cut_short sp b = omega (arith, length-take sp.len (drop sp.start b), length-drop sp.start b)

buffer_short : (s d : List ℕ) (c : Context) → length s < size_bound → length d < size_bound → length (buffer_of s d c) < size_bound
buffer_short s d context.Packet h k = h
buffer_short s d context.Uri h k = k
buffer_short s d context.Header h k = k
buffer_short s d context.Body h k = h
buffer_short s d context.Banner h k = h
buffer_short s d context.Host h k = k
buffer_short s d context.File h k = h

field_short : (s d : List ℕ) (m : FieldMap) (c : Context) → length s < size_bound → length d < size_bound → length (field_of s d m c) < size_bound
unfolding field_of
field_short s d m c h k = omega (arith, cut_short (field_span s d m c) (buffer_of s d c), buffer_short s d c h k)

pub measured : (s d : List ℕ) (m : FieldMap) (p : Pattern) (b : List ℕ) (l : Option Match) (f : List ℕ) → Bounded s d p b l → f ≡ field_of s d m p.context
    → Measured p l (length f)
measured s d m p b l f h e =
    record {
      field = rw e (field_short s d m p.context h.payload h.decoded);
      last = h.last;
      pattern = h.pattern;
    }

-- ---- negated patterns

-- a test of starts that goes by their numbers keeps the starts of the numbers that are kept
keep_numbers : (f : Start → Bool) (g : ℕ → Bool) (l : List ℕ) → ((x : ℕ) → f (start_at x) ≡ g x) → keep f (map start_at l) ≡ map start_at (keep g l)
unfolding keep
keep_numbers f g [] h = refl
keep_numbers f g (x ∷ l) h = rw (h x, keep_numbers f g l h) (one (g x))
  where
    one : (t : Bool) → keep_one t (start_at x) (map start_at (keep g l)) ≡ map start_at (keep_one t x (keep g l))
    one true = refl
    one false = refl

none_numbers_lem : (l : List ℕ) → none? (map start_at l) ≡ none? l
none_numbers_lem [] = refl
none_numbers_lem (x ∷ l) = refl

module _ (v : PacketHeader) (s d : List ℕ) (m : FieldMap) (p : Pattern) (b : List ℕ) (l : Option Match) where
  pub nowhere_absent : present m p.context ≡ false → false ≡ unmatched_holds (seen v s d m) p b l
  unfolding unmatched_holds
  nowhere_absent e = rw e

  -- the starts of a pattern on a present field
  pub starts_present : present m p.context ≡ true → starts (seen v s d m) p b l ≡ map start_at (places_of p b l (field_of s d m p.context))
  unfolding starts lies_in
  starts_present e =
      keep_numbers (lies_in (seen v s d m) p b l) (lies p b l (field_of s d m p.context)) (up_from 0 (suc (length (field_of s d m p.context))))
      (λ x. rw e)

  pub nowhere_present : present m p.context ≡ true → (f : List ℕ) (r : Bool) → f ≡ field_of s d m p.context → r ≡ none? (places_of p b l f)
      → r ≡ unmatched_holds (seen v s d m) p b l
  unfolding unmatched_holds
  nowhere_present e f r q h = rw (e, starts_present e, none_numbers_lem (places_of p b l (field_of s d m p.context)), ← q) h
