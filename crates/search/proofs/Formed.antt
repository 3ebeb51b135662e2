-- What a well-formed table gives the search: no more items than there is room for, each pattern's bytes among the table's, a start for each positive
-- pattern; and each placement listed has as many starts.
use Rattle.std.specs.Prelude.{Option, None}
use mathlib.Core.Path.{◌≡◌, sym, ◌∙◌}
use mathlib.Core.Bool.{Bool, true, false}
use mathlib.Core.List.{List, [], ◌∷◌, Memᴰ as Mem}
use Prim.Native.Nat.{ℕ, ◌+◌, ◌≤◌, ◌<◌}
use native.Mathlib.Omega.{arith}
use lib.ListN.{length}
use lib.Dec.{eqb, leb}
use borrow.Author.Tests.{eqb-true, leb-true}
use Rattle.forms.proofs.Bools.{by_cases, both_left, both_right}
use Rattle.definitions.specs.declared.table.Pattern.{Pattern}
use Rattle.definitions.specs.declared.table.Item.{Item}
use Rattle.definitions.specs.declared.table.Address.{Address}
use Rattle.definitions.specs.declared.table.Slot.{Slot}
use Rattle.definitions.specs.declared.table.Table.{Table}
use Rattle.definitions.specs.declared.packets.Direction.{Direction}
use Rattle.definitions.specs.declared.packets.Start.{Start}
use Rattle.definitions.specs.declared.packets.Placement.{Placement}
use Rattle.definitions.specs.Limits.{max_items, max_patterns, max_byte}
use Rattle.definitions.specs.Lists.{keep, all?}
use Rattle.definitions.specs.Items.{Kind, unused, addressed, patterned, plain_test, kind_of, slots_of, pattern_first, patterns_of, after_item}
use Rattle.definitions.specs.WellFormed.{name_fits, slot_fits, slot_unused, pattern_count, items_fit, bytes_of, bytes_fit, well_formed}
use Rattle.definitions.specs.Fields.{View}
use Rattle.definitions.specs.Placements.{constraint_by, constraints, items_of, positive_in, positives, placements, head_holds, listed}
use Rattle.definitions.specs.Answers.{placement_of}
use Rattle.laws.proofs.Keep.{keep_in}
use Rattle.laws.proofs.Listing.{placements_meet, meets_length}
use Rattle.table_well_formed.proofs.Forming as forming
use Rattle.match_windows.specs.Spans.{size_bound}
use Rattle.search_state.specs.Outcomes.{outcome_of}
use Rattle.search_state.specs.Choosing.{answer, after_if}
use Rattle.search_state.proofs.Extending.{first_outcome}
use Rattle.search_items.specs.Items.{ReadyItems}
use Rattle.search.specs.Searching.{Searchable}

-- ---- no more positive patterns than patterns

positives_by : (k : Kind) (it : Item) (al : List Address) (b : List ℕ) (n : ℕ) (ps : List Pattern) → n ≤ length ps
    → positive_in (constraint_by k it al b) + n ≤ length (pattern_first k ps)
positives_by unused it al b n ps h = omega arith
positives_by (addressed a) it al b n ps h = omega arith
positives_by (patterned p) it al b n ps h = by_cases p.negated (λ t. rw t (omega arith)) (λ f. rw f (omega arith))
positives_by plain_test it al b n ps h = omega arith

positives_few : (sls : List Slot) (b : List ℕ) → positives (constraints sls b) ≤ length (patterns_of sls)
unfolding positives constraints patterns_of
positives_few [] b = omega arith
positives_few (sl ∷ sls) b =
    let k = kind_of sl.item in
    positives_by k sl.item sl.addresses b (positives (constraints sls (after_item k b))) (patterns_of sls) (positives_few sls (after_item k b))

-- ---- a well-formed table

module _ (t : Table) (formed : well_formed t ≡ true) where
  items_fit_lem : items_fit t ≡ true
  unfolding well_formed
  items_fit_lem = both_left (items_fit t) _ (both_right (leb t.protocol max_byte) _ (both_right (name_fits t.name t.len) _ formed))

  bytes_fit_lem : bytes_fit t ≡ true
  unfolding well_formed
  bytes_fit_lem =
      both_left (bytes_fit t) _ (both_right (items_fit t) _ (both_right (leb t.protocol max_byte) _ (both_right (name_fits t.name t.len) _ formed)))

  few_items : t.count ≤ max_items
  few_items = forming.few_items t items_fit_lem

  few_patterns : pattern_count t ≤ max_patterns
  unfolding items_fit
  few_patterns =
      leb-true (pattern_count t) max_patterns
      (both_left (leb (pattern_count t) max_patterns) _
      (both_right (all? slot_unused _) _ (both_right (all? slot_fits (slots_of t)) _ (both_right (leb t.count max_items) _ items_fit_lem))))

  stored : bytes_of (patterns_of (slots_of t)) ≤ length t.bytes
  unfolding bytes_fit
  stored =
      let used = eqb-true t.used (bytes_of (patterns_of (slots_of t))) (both_left (eqb t.used (bytes_of (patterns_of (slots_of t)))) _ bytes_fit_lem) in
      let more = both_right (eqb t.used (bytes_of (patterns_of (slots_of t)))) _ bytes_fit_lem in
      let room = leb-true t.used (length t.bytes) (both_left (leb t.used (length t.bytes)) _ more) in
      omega arith

  pub formed_searchable : (s d : List ℕ) → length t.bytes < size_bound → length s < size_bound → length d < size_bound
      → Searchable t.items t.count t.bytes s d
  formed_searchable s d b h k =
      record { few = few_items; patterns = few_patterns; stored = stored; bytes = b; payload = h; decoded = k }

-- ---- what can be searched

module _ (t : Table) {s d : List ℕ} (ready : Searchable t.items t.count t.bytes s d) where
  few_positives : positives (items_of t) ≤ max_patterns
  unfolding items_of
  few_positives = omega (arith, positives_few (slots_of t) t.bytes, ready.patterns)

  pub ready_first : ReadyItems (slots_of t) t.bytes s d None (placement_of [])
  unfolding items_of
  ready_first =
      record {
        small = record { bytes = ready.bytes; payload = ready.payload; decoded = ready.decoded; last = omega arith };
        stored = ready.stored;
        room = omega (arith, few_positives);
      }

  -- ---- what it lists

  module _ (v : View) where
    short : (q : List Start) → Mem q (placements v (items_of t) None) → length q ≤ max_patterns
    short q m = let e = meets_length v (items_of t) None q (placements_meet v (items_of t) None q m) in omega (arith, few_positives)

    module _ (dir : Direction) (on-bound : Bool) (p : List Start) where
      pub found_first : (h : Bool) → h ≡ head_holds t v dir → h ≡ true → (x : Option Placement)
          → x ≡ answer (placement_of []) on-bound p (placements v (constraints (slots_of t) t.bytes) None)
          → x ≡ outcome_of (keep (after_if on-bound p) (listed t v dir))
      unfolding answer listed items_of
      found_first b e n x h =
          h ∙ first_outcome (keep (after_if on-bound p) (placements v (items_of t) None))
          (λ q m. short q (keep_in (after_if on-bound p) q (placements v (items_of t) None) m).0)
          ∙ rw (sym e ∙ n)

pub found_none : (t : Table) (v : View) (dir : Direction) (on-bound : Bool) (p : List Start) (h : Bool) → h ≡ head_holds t v dir → h ≡ false
    → None ≡ outcome_of (keep (after_if on-bound p) (listed t v dir))
unfolding listed keep
found_none t v dir on-bound p h e n = rw (sym e ∙ n)
