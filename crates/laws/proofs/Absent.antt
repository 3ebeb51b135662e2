-- A field that is missing meets nothing. A test or pattern, negated or not, on an absent field doesn't hold (`absent_never`); so a list of items
-- with such an item, at whatever place, has no placements (`absent_after`, `absent_none`); so a table with such an item is met by no packet and
-- no decoded buffer (`absent_table`, `absent_verdict`). Of data_at and byte_test with relative, whose field is that of the last positive pattern before,
-- `absent_at` says which that can be. Section "Meaning", its first paragraph. The argument: each item's test asks for its field first.
use Rattle.std.specs.Prelude.{Option, None, Result, Ok, Err}
use mathlib.Core.Path.{◌≡◌, refl, sym, ap, ◌∙◌, subst, fun_ext}
use mathlib.Core.Logic.{◌⊎◌, inl, inr, ⊎_elim}
use mathlib.Core.Bool.{Bool, true, false, ◌&&◌, true≢false, false≢true}
use mathlib.Core.List.Memᴰ.{head as here}
use mathlib.Core.List.Memᴰ.{not-nil}
use mathlib.Core.List.Memᴰ.{tail as there}
use mathlib.Core.List.{List, [], ◌∷◌, ◌++◌, Memᴰ as Mem}
use mathlib.Core.List.Memᴰ.{cases_cons, eq_of_singleton}
use Prim.Native.Nat.{ℕ}
use lib.ListN.{length}
use Rattle.forms.proofs.Bools.{by_cases}
use Rattle.definitions.specs.declared.table.Context.{Context}
use Rattle.definitions.specs.declared.table.Pattern.{Pattern}
use Rattle.definitions.specs.declared.table.Item.{Item}
use Rattle.definitions.specs.declared.table.Item.TheVariants as item
use Rattle.definitions.specs.declared.table.Address.{Address}
use Rattle.definitions.specs.declared.table.Slot.{Slot}
use Rattle.definitions.specs.declared.table.Table.{Table}
use Rattle.definitions.specs.declared.packets.Direction.{Direction}
use Rattle.definitions.specs.declared.packets.FieldMap.{FieldMap}
use Rattle.definitions.specs.declared.packets.Start.{Start}
use Rattle.definitions.specs.declared.answers.Verdict.{Verdict}
use Rattle.definitions.specs.declared.answers.Verdict.TheVariants as verdict
use Rattle.definitions.specs.declared.answers.Refusal.{Refusal}
use Rattle.definitions.specs.declared.packets.Match.{Match}
use Rattle.definitions.specs.Items.{kind_of, slots_of, after_item}
use Rattle.definitions.specs.Starts.{start_at}
use Rattle.definitions.specs.References.{last_after}
use Rattle.definitions.specs.Fields.{View, view_of, present, size_context}
use Rattle.definitions.specs.Tests.{at_context, size_holds, at_holds, byte_holds, test_holds}
use Rattle.definitions.specs.Placements.{starts_to, spread, only_if, Constraint, matched, unmatched, tested, pattern_constraint, constraint_by}
use Rattle.definitions.specs.Placements.{constraints, items_of, lies_in, starts, unmatched_holds, placements, head_holds, listed}
use Rattle.definitions.specs.Answers.{input_check, placements_of, verdict_by, verdict_answer}
use Rattle.laws.proofs.Keep.{keep_none}

-- ---- what the statements say

-- the fields that a test looks at, after the last positive pattern: data_size its field, data_at and byte_test the payload or, with relative, the
-- pattern's field; tests of the header none
abbrev pub fields_tested : Item → Option Match → List Context
fields_tested item.Unused l = []
fields_tested (item.Address a) l = []
fields_tested item.SameIp l = []
fields_tested (item.Number t) l = []
fields_tested (item.Ttl t) l = []
fields_tested (item.Field t) l = []
fields_tested (item.Size t) l = size_context t.field ∷ []
fields_tested (item.At t) l = at_context t.relative l ∷ []
fields_tested (item.Byte t) l = at_context t.relative l ∷ []
fields_tested (item.Pattern p) l = []

-- the fields that an item looks at: a pattern, negated or not, its context
abbrev pub fields_read : Constraint → Option Match → List Context
fields_read (matched p b) l = p.context ∷ []
fields_read (unmatched p b) l = p.context ∷ []
fields_read (tested it al) l = fields_tested it l

-- the item holds after the last positive pattern, a pattern without `!` at the start s
abbrev pub item_holds : View → Constraint → Option Match → Start → Bool
item_holds v (matched p b) l s = lies_in v p b l s
item_holds v (unmatched p b) l s = unmatched_holds v p b l
item_holds v (tested it al) l s = test_holds v it al l

-- the last positive pattern after some items; where it lies plays no part for the field
unfoldable pub last_after_all : List Constraint → Option Match → Option Match
last_after_all [] l = l
last_after_all (matched p b ∷ ws) l = last_after_all ws (last_after l p (start_at 0))
last_after_all (unmatched p b ∷ ws) l = last_after_all ws l
last_after_all (tested it al ∷ ws) l = last_after_all ws l

-- the fields that a slot's item looks at, whatever stands before it: not those of data_at and byte_test
abbrev pub fields_of : Item → List Context
fields_of item.Unused = []
fields_of (item.Address a) = []
fields_of item.SameIp = []
fields_of (item.Number t) = []
fields_of (item.Ttl t) = []
fields_of (item.Field t) = []
fields_of (item.Size t) = size_context t.field ∷ []
fields_of (item.At t) = []
fields_of (item.Byte t) = []
fields_of (item.Pattern p) = p.context ∷ []

-- ---- one item

absent_first : (v : View) (x c : Context) (b : Bool) → Mem c (x ∷ []) → v.present c ≡ false → (v.present x && b) ≡ false
absent_first v x c b m e = let f : v.present x ≡ false = ap v.present (sym (eq_of_singleton m)) ∙ e in rw f

absent_test : (v : View) (it : Item) (al : List Address) (l : Option Match) (c : Context) → Mem c (fields_tested it l) → v.present c ≡ false
    → test_holds v it al l ≡ false
unfolding test_holds size_holds at_holds byte_holds
absent_test v item.Unused al l c m e = refl
absent_test v (item.Address a) al l c m e = absurd (not-nil m)
absent_test v item.SameIp al l c m e = absurd (not-nil m)
absent_test v (item.Number t) al l c m e = absurd (not-nil m)
absent_test v (item.Ttl t) al l c m e = absurd (not-nil m)
absent_test v (item.Field t) al l c m e = absurd (not-nil m)
absent_test v (item.Size t) al l c m e = absent_first v (size_context t.field) c _ m e
absent_test v (item.At t) al l c m e = absent_first v (at_context t.relative l) c _ m e
absent_test v (item.Byte t) al l c m e = absent_first v (at_context t.relative l) c _ m e
absent_test v (item.Pattern p) al l c m e = refl

-- A TEST OR PATTERN ON AN ABSENT FIELD NEVER HOLDS, negated or not
pub absent_never : (v : View) (w : Constraint) (l : Option Match) (s : Start) (c : Context) → Mem c (fields_read w l) → v.present c ≡ false
    → item_holds v w l s ≡ false
unfolding lies_in unmatched_holds
absent_never v (matched p b) l s c m e = absent_first v p.context c _ m e
absent_never v (unmatched p b) l s c m e = absent_first v p.context c _ m e
absent_never v (tested it al) l s c m e = absent_test v it al l c m e

-- `fields_read` leaves none out: besides the datagram's header fields an item depends on those fields only
pub looks_only : (v v' : View) (w : Constraint) (l : Option Match) (s : Start) → v.header ≡ v'.header
    → ((c : Context) → Mem c (fields_read w l) → (v.present c ≡ v'.present c) × (v.field c ≡ v'.field c)) → item_holds v w l s ≡ item_holds v' w l s
unfolding lies_in unmatched_holds starts test_holds size_holds at_holds byte_holds
looks_only v v' (matched p b) l s f h = let k = h p.context (here refl) in rw (k.0, k.1)
looks_only v v' (unmatched p b) l s f h =
    let k = h p.context (here refl) in
    let e : lies_in v p b l ≡ lies_in v' p b l = fun_ext (λ at. rw (k.0, k.1)) in
    rw (e, k.0, k.1)
looks_only v v' (tested item.Unused al) l s f h = refl
looks_only v v' (tested (item.Address a) al) l s f h = rw f
looks_only v v' (tested item.SameIp al) l s f h = rw f
looks_only v v' (tested (item.Number t) al) l s f h = rw f
looks_only v v' (tested (item.Ttl t) al) l s f h = rw f
looks_only v v' (tested (item.Field t) al) l s f h = rw f
looks_only v v' (tested (item.Size t) al) l s f h = let k = h (size_context t.field) (here refl) in rw (k.0, k.1)
looks_only v v' (tested (item.At t) al) l s f h = let k = h (at_context t.relative l) (here refl) in rw (k.0, k.1)
looks_only v v' (tested (item.Byte t) al) l s f h = let k = h (at_context t.relative l) (here refl) in rw (k.0, k.1)
looks_only v v' (tested (item.Pattern p) al) l s f h = refl

-- ---- a list of items

spread_none : (f : Start → List (List Start)) (ss : List Start) → ((s : Start) → f s ≡ []) → spread f ss ≡ []
unfolding spread
spread_none f [] h = refl
spread_none f (s ∷ ss) h = rw (h s) (spread_none f ss h)

only_none : (b : Bool) (l : List (List Start)) → l ≡ [] → only_if b l ≡ []
only_none true l e = e
only_none false l e = refl

module _ (v : View) where
  -- an item that never holds has no placements, whatever stands after it
  never_none : (w : Constraint) (ws : List Constraint) (l : Option Match) → ((s : Start) → item_holds v w l s ≡ false) → placements v (w ∷ ws) l ≡ []
  unfolding placements starts spread
  never_none (matched p b) ws l h = rw (keep_none (lies_in v p b l) (starts_to (length (v.field p.context))) h)
  never_none (unmatched p b) ws l h = rw (h (start_at 0))
  never_none (tested it al) ws l h = rw (h (start_at 0))

  module _ (w : Constraint) (ws : List Constraint) (c : Context) (e : v.present c ≡ false) where
    -- two last patterns in one field
    abbrev Alike : Option Match → Option Match → Type 0
    Alike k l = at_context true k ≡ at_context true l

    tested_alike : (relative : Bool) (k l : Option Match) → Alike k l → at_context relative k ≡ at_context relative l
    tested_alike true k l h = h
    tested_alike false k l h = refl

    read_alike : (x : Constraint) (k l : Option Match) → Alike k l → fields_read x k ≡ fields_read x l
    read_alike (matched p b) k l h = refl
    read_alike (unmatched p b) k l h = refl
    read_alike (tested item.Unused al) k l h = refl
    read_alike (tested (item.Address a) al) k l h = refl
    read_alike (tested item.SameIp al) k l h = refl
    read_alike (tested (item.Number t) al) k l h = refl
    read_alike (tested (item.Ttl t) al) k l h = refl
    read_alike (tested (item.Field t) al) k l h = refl
    read_alike (tested (item.Size t) al) k l h = refl
    read_alike (tested (item.At t) al) k l h = ap (λ (x : Context). x ∷ []) (tested_alike t.relative k l h)
    read_alike (tested (item.Byte t) al) k l h = ap (λ (x : Context). x ∷ []) (tested_alike t.relative k l h)
    read_alike (tested (item.Pattern p) al) k l h = refl

    after_alike : (p : Pattern) (s : Start) (k l : Option Match) → Alike k l → Alike (last_after k p s) (last_after l p (start_at 0))
    after_alike p s k l h = by_cases p.negated (λ t. rw t h) (λ f. rw f)

    after_none : (us : List Constraint) (k l : Option Match) → Alike k l → Mem c (fields_read w (last_after_all us l)) → placements v (us ++ (w ∷ ws)) k ≡ []
    unfolding placements last_after_all
    after_none [] k l h m = never_none w ws k (λ s. absent_never v w k s c (subst (Mem c) (sym (read_alike w k l h)) m) e)
    after_none (matched p b ∷ us) k l h m =
        spread_none _ (starts v p b k) (λ s. after_none us (last_after k p s) (last_after l p (start_at 0)) (after_alike p s k l h) m)
    after_none (unmatched p b ∷ us) k l h m = only_none (unmatched_holds v p b k) _ (after_none us k l h m)
    after_none (tested it al ∷ us) k l h m = only_none (test_holds v it al k) _ (after_none us k l h m)

  -- A LIST OF ITEMS ONE OF WHICH LOOKS AT AN ABSENT FIELD HAS NO PLACEMENTS: the item w between the items us and ws, after the last pattern l
  pub absent_after : (us : List Constraint) (w : Constraint) (ws : List Constraint) (l : Option Match) (c : Context)
      → Mem c (fields_read w (last_after_all us l)) → v.present c ≡ false
      → placements v (us ++ (w ∷ ws)) l ≡ []
  absent_after us w ws l c m e = after_none w ws c e us l l refl m

  -- the same of an item at whatever place, if it looks at the field whatever stands before it, as each pattern and data_size does
  pub absent_none : (ws : List Constraint) (w : Constraint) (c : Context) → Mem w ws → ((k : Option Match) → Mem c (fields_read w k)) → v.present c ≡ false
      → (l : Option Match) → placements v ws l ≡ []
  absent_none ws w c m r e l =
      let p = split w ws m in
      rw p.2 (absent_after p.0 w p.1 l c (r (last_after_all p.0 l)) e)
    where
      split : (x : Constraint) (xs : List Constraint) → Mem x xs → (us : List Constraint) × (vs : List Constraint) × (xs ≡ us ++ (x ∷ vs))
      split x [] n = absurd (not-nil n)
      split x (y ∷ xs) n =
          ⊎_elim
          (λ q. ([], xs, ap (λ (z : Constraint). z ∷ xs) (sym q)))
          (λ q. let r = split x xs q in (y ∷ r.0, r.1, ap (λ (zs : List Constraint). y ∷ zs) r.2))
          (cases_cons n)

-- ---- a table

-- an item as the meaning takes it looks at the fields of the slot's item
pattern_reads : (p : Pattern) (b : List ℕ) (l : Option Match) → fields_read (pattern_constraint p b) l ≡ p.context ∷ []
pattern_reads p b l = by_cases p.negated (λ t. rw t) (λ f. rw f)

slot_reads : (it : Item) (al : List Address) (b : List ℕ) (c : Context) → Mem c (fields_of it) → (l : Option Match)
    → Mem c (fields_read (constraint_by (kind_of it) it al b) l)
slot_reads item.Unused al b c m l = absurd (not-nil m)
slot_reads (item.Address a) al b c m l = absurd (not-nil m)
slot_reads item.SameIp al b c m l = absurd (not-nil m)
slot_reads (item.Number t) al b c m l = absurd (not-nil m)
slot_reads (item.Ttl t) al b c m l = absurd (not-nil m)
slot_reads (item.Field t) al b c m l = absurd (not-nil m)
slot_reads (item.Size t) al b c m l = m
slot_reads (item.At t) al b c m l = absurd (not-nil m)
slot_reads (item.Byte t) al b c m l = absurd (not-nil m)
slot_reads (item.Pattern p) al b c m l = subst (Mem c) (sym (pattern_reads p _ l)) m

-- a slot's item is among the items, with some pattern bytes
slot_constraint : (sl : Slot) (sls : List Slot) (b : List ℕ) → Mem sl sls
    → (d : List ℕ) × Mem (constraint_by (kind_of sl.item) sl.item sl.addresses d) (constraints sls b)
unfolding constraints
slot_constraint sl [] b m = absurd (not-nil m)
slot_constraint sl (x ∷ sls) b m =
    ⊎_elim
    (λ e. (b, here (ap (λ (y : Slot). constraint_by (kind_of y.item) y.item y.addresses b) e)))
    (λ n. let r = slot_constraint sl sls (after_item (kind_of x.item) b) n in (r.0, there r.1))
    (cases_cons m)

module _ (t : Table) (sl : Slot) (c : Context) (inUse : Mem sl (slots_of t)) (looks : Mem c (fields_of sl.item)) (m : FieldMap) (absent : present m c ≡ false)
    (packet decoded : List ℕ) (dir : Direction) where
  -- A TABLE WITH A PATTERN, negated or not, OR A data_size ON AN ABSENT FIELD HAS AN EMPTY LIST, whatever packet and decoded buffer hold
  pub absent_table : listed t (view_of packet decoded m) dir ≡ []
  unfolding listed items_of
  absent_table =
      let w = slot_constraint sl (slots_of t) t.bytes inUse in
      only_none (head_holds t (view_of packet decoded m) dir) _
      (absent_none (view_of packet decoded m) (constraints (slots_of t) t.bytes) _ c w.1 (slot_reads sl.item sl.addresses w.0 c looks) absent None)

  -- so no verdict calls it met
  pub absent_verdict : verdict_answer t packet decoded dir m ≡ Ok verdict.Met → ⊥
  unfolding verdict_answer placements_of
  absent_verdict e = never (input_check t packet decoded dir m) (sym (ap (verdict_by (input_check t packet decoded dir m)) absent_table) ∙ e)
    where
      is_met : Result Verdict Refusal → Bool
      is_met (Ok verdict.NotMet) = false
      is_met (Ok verdict.Met) = true
      is_met (Err r) = false

      never : (d : Result Unit Refusal) → verdict_by d [] ≡ Ok verdict.Met → ⊥
      never (Ok tt) q = false≢true (ap is_met q)
      never (Err r) q = false≢true (ap is_met q)

-- ---- data_at and byte_test

-- the last positive pattern after some items is one of them, or the one before them
abbrev Among : List Constraint → Context → Type 0
Among us x = (p : Pattern) × (b : List ℕ) × Mem (matched p b) us × (x ≡ p.context)

last_among : (us : List Constraint) (l : Option Match)
    → (at_context true (last_after_all us l) ≡ at_context true l) ⊎ Among us (at_context true (last_after_all us l))
unfolding last_after_all
last_among [] l = inl refl
last_among (matched p b ∷ us) l =
    ⊎_elim
    (λ e. by_cases p.negated (λ t. inl (e ∙ rw t)) (λ f. inr (p, b, here refl, e ∙ rw f)))
    (λ q. inr (q.0, q.1, there q.2, q.3))
    (last_among us (last_after l p (start_at 0)))
last_among (unmatched p b ∷ us) l = ⊎_elim inl (λ q. inr (q.0, q.1, there q.2, q.3)) (last_among us l)
last_among (tested it al ∷ us) l = ⊎_elim inl (λ q. inr (q.0, q.1, there q.2, q.3)) (last_among us l)

-- DATA_AT AND BYTE_TEST LOOK AT AN ABSENT FIELD ONLY WITH RELATIVE, AFTER A PATTERN ON THAT FIELD, which then holds as little: else they look at the
-- payload, which is always present
pub absent_at : (m : FieldMap) (us : List Constraint) (relative : Bool) → present m (at_context relative (last_after_all us None)) ≡ false
    → (relative ≡ true)
    × ((p : Pattern) × (b : List ℕ) × Mem (matched p b) us × (p.context ≡ at_context relative (last_after_all us None))
    × (present m p.context ≡ false))
unfolding present
absent_at m us false e = absurd (true≢false e)
absent_at m us true e = (
  refl,
  ⊎_elim
      (λ q. absurd (true≢false (sym (ap (present m) q) ∙ e)))
      (λ q. (q.0, q.1, q.2, sym q.3, sym (ap (present m) q.3) ∙ e))
      (last_among us None),
)
