-- data_at N. It holds exactly if its field is present and at least N bytes follow its starting point there (`data_at_exactly`). So it holds for
-- each smaller number too (`data_at_fewer`), and for N + 1 exactly if there is a byte at N (`data_at_byte`). data_at 0 always holds: leaving it out
-- changes no list of placements (`data_at_zero`), since a pattern that was met ends within its field. Section "Meaning"; document 02, T-04.
use Rattle.std.specs.Prelude.{Option, Some, None}
use mathlib.Core.Path.{◌≡◌, refl, ap}
use mathlib.Core.Logic.{◌↔◌}
use mathlib.Core.Bool.{Bool, true, false, ◌&&◌}
use mathlib.Core.List.Memᴰ.{head as here}
use mathlib.Core.List.Memᴰ.{tail as there}
use mathlib.Core.List.{List, [], ◌∷◌, ◌++◌, Memᴰ as Mem}
use Prim.Native.Nat.{ℕ, suc, ◌+◌, ◌≤◌}
use native.Mathlib.Omega.{arith}
use lib.ListN.{length}
use lib.Dec.{ltb, leb}
use borrow.Author.Tests.{ltb-true, ltb-false, leb-true, le-leb, lt-leb}
use Rattle.forms.proofs.Bools.{by_cases, both_left, both_right}
use Rattle.definitions.specs.declared.table.AtTest.{AtTest}
use Rattle.definitions.specs.declared.table.Pattern.{Pattern}
use Rattle.definitions.specs.declared.table.Item.TheVariants as item
use Rattle.definitions.specs.declared.table.Address.{Address}
use Rattle.definitions.specs.declared.table.Context.TheVariants as context
use Rattle.definitions.specs.declared.packets.FieldMap.{FieldMap}
use Rattle.definitions.specs.declared.packets.Start.{Start}
use Rattle.definitions.specs.declared.packets.Match.{Match}
use Rattle.definitions.specs.References.{last_after}
use Rattle.definitions.specs.Fields.{View, view_of, present}
use Rattle.definitions.specs.Tests.{at_context, at_start, at_holds, test_holds}
use Rattle.definitions.specs.Placements.{spread, only_if, Constraint, matched, unmatched, tested, lies_in, starts, unmatched_holds, placements}
use Rattle.laws.proofs.PatternStarts.{starts_in_lem, lies_inside}

-- ---- one test

-- the test of data_at n, with relative or without
abbrev pub data_at : ℕ → Bool → AtTest
data_at n relative = record { number = n; relative = relative }

module _ (v : View) (relative : Bool) (l : Option Match) where
  -- the field that it counts in: whether it is present, and how many bytes it has
  abbrev field_present : Bool
  field_present = v.present (at_context relative l)

  abbrev field_length : ℕ
  field_length = length (v.field (at_context relative l))

  -- DATA_AT N HOLDS EXACTLY IF AT LEAST N BYTES FOLLOW ITS STARTING POINT, IN A FIELD THAT IS PRESENT
  pub data_at_exactly : (n : ℕ) → (at_holds v (data_at n relative) l ≡ true) ↔ ((field_present ≡ true) × (at_start relative l + n ≤ field_length))
  unfolding at_holds
  data_at_exactly n =
      let follow = leb (at_start relative l + n) field_length in (
        λ e. (both_left field_present follow e, leb-true _ field_length (both_right field_present follow e)),
        λ h. rw (h.0, le-leb (at_start relative l + n) field_length h.1),
      )

  pub data_at_fewer : (k n : ℕ) → k ≤ n → at_holds v (data_at n relative) l ≡ true → at_holds v (data_at k relative) l ≡ true
  data_at_fewer k n h e =
      let a = (data_at_exactly n).0 e in
      let b = a.1 in
      (data_at_exactly k).1 (a.0, omega arith)

  -- data_at n + 1 holds exactly if there is a byte at n, counted from 0: what document 01 asked for with n
  pub data_at_byte : (n : ℕ) → at_holds v (data_at (suc n) relative) l ≡ (field_present && ltb (at_start relative l + n) field_length)
  unfolding at_holds
  data_at_byte n = ap (λ (b : Bool). field_present && b) (more (at_start relative l) field_length)
    where
      more : (start len : ℕ) → leb (start + suc n) len ≡ ltb (start + n) len
      more start len =
          by_cases (ltb (start + n) len)
          (λ e. let k = ltb-true (start + n) len e in rw e (le-leb (start + suc n) len (omega arith)))
          (λ e. let k = ltb-false (start + n) len e in rw e (lt-leb (start + suc n) len (omega arith)))

-- ---- data_at 0 among other items

pub spread_alike : (f g : Start → List (List Start)) (ss : List Start) → ((s : Start) → Mem s ss → f s ≡ g s) → spread f ss ≡ spread g ss
unfolding spread
spread_alike f g [] h = refl
spread_alike f g (s ∷ ss) h = rw (h s (here refl), spread_alike f g ss (λ x m. h x (there m)))

module _ (v : View) where
  -- the last positive pattern, if there is one, lies in a present field and ends within it
  abbrev LastWithin : Option Match → Type 0
  LastWithin None = Unit {0}
  LastWithin (Some m) = (v.present m.context ≡ true) × (m.end ≤ length (v.field m.context))

  after_within : (p : Pattern) (b : List ℕ) (l : Option Match) (s : Start) → LastWithin l → lies_in v p b l s ≡ true → LastWithin (last_after l p s)
  unfolding lies_in
  after_within p b l s h e = by_cases p.negated (λ t. rw t h) (λ f. rw f (both_left (v.present p.context) _ e, lies_inside v p b l s e))

  module _ (payload : v.present context.Packet ≡ true) where
    zero_holds : (relative : Bool) (l : Option Match) → LastWithin l → at_holds v (data_at 0 relative) l ≡ true
    zero_holds false l h = (data_at_exactly v false l 0).1 (payload, omega arith)
    zero_holds true None h = (data_at_exactly v true None 0).1 (payload, omega arith)
    zero_holds true (Some m) h = let k = h.1 in (data_at_exactly v true (Some m) 0).1 (h.0, omega arith)

    module _ (relative : Bool) (al : List Address) (ws : List Constraint) where
      zero-after : (us : List Constraint) (l : Option Match) → LastWithin l
          → placements v (us ++ (tested (item.At (data_at 0 relative)) al ∷ ws)) l ≡ placements v (us ++ ws) l
      unfolding placements test_holds
      zero-after [] l h = rw (zero_holds relative l h)
      zero-after (matched p b ∷ us) l h =
          spread_alike _ _ (starts v p b l) (λ s m. zero-after us (last_after l p s) (after_within p b l s h (starts_in_lem v p b l s m)))
      zero-after (unmatched p b ∷ us) l h = ap (only_if (unmatched_holds v p b l)) (zero-after us l h)
      zero-after (tested it addresses ∷ us) l h = ap (only_if (test_holds v it addresses l)) (zero-after us l h)

-- DATA_AT 0 ALWAYS HOLDS: among any items, us before it and ws after it, leaving it out changes no placement
pub data_at_zero : (packet decoded : List ℕ) (m : FieldMap) (relative : Bool) (al : List Address) (us ws : List Constraint)
    → placements (view_of packet decoded m) (us ++ (tested (item.At (data_at 0 relative)) al ∷ ws)) None ≡ placements (view_of packet decoded m) (us ++ ws) None
unfolding present
data_at_zero packet decoded m relative al us ws = zero-after (view_of packet decoded m) refl relative al ws us None tt
