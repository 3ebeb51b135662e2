-- One item more: what is wanted of the items left, what the search rests on after it, and what it answers.
use Rattle.std.specs.Prelude.{Option, None}
use mathlib.Core.Path.{◌≡◌, refl, ap, ◌∙◌}
use mathlib.Core.Bool.{Bool, true, false}
use mathlib.Core.List.{List, [], ◌∷◌}
use Prim.Native.Nat.{ℕ, ◌+◌, ◌≤◌, ◌<◌}
use native.Mathlib.Omega.{arith}
use lib.ListN.{length, take, drop, get_or, length-take, length-drop}
use Rattle.forms.proofs.Bools.{by_cases}
use Rattle.definitions.specs.declared.table.Pattern.{Pattern}
use Rattle.definitions.specs.declared.table.Item.{Item}
use Rattle.definitions.specs.declared.table.Item.TheVariants as item
use Rattle.definitions.specs.declared.table.Address.{Address}
use Rattle.definitions.specs.declared.table.Slot.{Slot}
use Rattle.definitions.specs.declared.packets.Start.{Start}
use Rattle.definitions.specs.declared.packets.Placement.{Placement}
use Rattle.definitions.specs.References.{last_after}
use Rattle.definitions.specs.Windows.{last_end}
use Rattle.definitions.specs.Items.{Kind, pattern_first, patterns_of, after_item}
use Rattle.definitions.specs.WellFormed.{bytes_of}
use Rattle.definitions.specs.Fields.{View}
use Rattle.definitions.specs.Tests.{test_holds}
use Rattle.definitions.specs.Placements.{Constraint, matched, unmatched, tested, pattern_constraint, constraint_by, constraints, positives}
use Rattle.definitions.specs.Placements.{unmatched_holds, placements}
use Rattle.definitions.proofs.OtherItems.{other_kind}
use Rattle.list_laws.proofs.Firsts.{first_here, first_out}
use Rattle.match_windows.specs.Spans.{size_bound}
use Rattle.match_items.specs.Bounds.{Bounded}
use Rattle.search_state.specs.Choosing.{push, answer}
use Rattle.search_state.proofs.Answering.{answer_nothing}
use Rattle.search_state.specs.declared.input.SearchInput.{SearchInput}
use Rattle.definitions.specs.declared.packets.Match.{Match}
use Rattle.search_state.specs.Inputs.{items_left, slot0}
use Rattle.search_items.specs.Items.{Small, ReadyItems, Trying}

-- ---- what is wanted

abbrev pub NoPattern : Item → Type 0
NoPattern it = (q : Pattern) → it ≡ item.Pattern q → ⊥

module _ (all : List Slot) (sl : Slot) (sls : List Slot) (u : all ≡ sl ∷ sls) (b : List ℕ) where
  pub constraints_test : NoPattern sl.item → constraints all b ≡ tested sl.item sl.addresses ∷ constraints sls b
  unfolding constraints
  constraints_test k =
      let it = sl.item in
      let al = sl.addresses in
      rw u
      (other_kind (λ (κ : Kind). ◌≡◌ {A = List Constraint} (constraint_by κ it al b ∷ constraints sls (after_item κ b)) (tested it al ∷ constraints sls b))
      refl (λ a. refl) refl it k)

  bytes_test : NoPattern sl.item → bytes_of (patterns_of all) ≡ bytes_of (patterns_of sls)
  unfolding patterns_of
  bytes_test k = rw u (other_kind (λ (κ : Kind). bytes_of (pattern_first κ (patterns_of sls)) ≡ bytes_of (patterns_of sls)) refl (λ a. refl) refl sl.item k)

  module _ (p : Pattern) (e : sl.item ≡ item.Pattern p) where
    constraints_pattern : constraints all b ≡ pattern_constraint p (take p.len b) ∷ constraints sls (drop p.len b)
    unfolding constraints
    constraints_pattern = rw (u, e)

    pub constraints_unmatched : p.negated ≡ true → constraints all b ≡ unmatched p (take p.len b) ∷ constraints sls (drop p.len b)
    constraints_unmatched n = constraints_pattern ∙ rw n

    pub constraints_matched : p.negated ≡ false → constraints all b ≡ matched p (take p.len b) ∷ constraints sls (drop p.len b)
    constraints_matched n = constraints_pattern ∙ rw n

    bytes_pattern : bytes_of (patterns_of all) ≡ p.len + bytes_of (patterns_of sls)
    unfolding patterns_of bytes_of
    bytes_pattern = rw (u, e)

pub left_here : (q : SearchInput) (k : ℕ) → k < q.count → q.count ≤ length q.items → items_left q k ≡ get_or q.items k slot0 ∷ items_left q (k + 1)
left_here q k h g = first_here q.items q.count k slot0 h g

pub left_out : (q : SearchInput) (k : ℕ) → q.count ≤ k → items_left q k ≡ []
left_out q k h = first_out q.items q.count k h

-- ---- what the search rests on

positives_test : (it : Item) (al : List Address) (ws : List Constraint) → positives (tested it al ∷ ws) ≡ positives ws
unfolding positives
positives_test it al ws = omega arith

positives_nowhere : (p : Pattern) (b : List ℕ) (ws : List Constraint) → positives (unmatched p b ∷ ws) ≡ positives ws
unfolding positives
positives_nowhere p b ws = omega arith

positives_placed : (p : Pattern) (b : List ℕ) (ws : List Constraint) → positives (matched p b ∷ ws) ≡ 1 + positives ws
unfolding positives
positives_placed p b ws = refl

module _ (all : List Slot) (sl : Slot) (sls : List Slot) (u : all ≡ sl ∷ sls) (b s d : List ℕ) (l : Option Match) (chosen : Placement)
    (rd : ReadyItems all b s d l chosen) where
  pub ready_test : NoPattern sl.item → ReadyItems sls b s d l chosen
  ready_test k =
      let room : positives (constraints all b) ≡ positives (constraints sls b) = ap positives (constraints_test all sl sls u b k) ∙ positives_test _ _ _ in
      record { small = rd.small; stored = omega (arith, rd.stored, bytes_test all sl sls u b k); room = omega (arith, rd.room, room) }

  module _ (p : Pattern) (e : sl.item ≡ item.Pattern p) where
    pub pattern_stored : p.len + bytes_of (patterns_of sls) ≤ length b
    pattern_stored = omega (arith, rd.stored, bytes_pattern all sl sls u b p e)

    own_whole : length (take p.len b) ≡ p.len
    own_whole = length-take p.len b ∙ omega (arith, pattern_stored)

    pub pattern_bounded : Bounded s d p (take p.len b) l
    pattern_bounded =
        record {
          payload = rd.small.payload;
          decoded = rd.small.decoded;
          last = rd.small.last;
          pattern = omega (arith, pattern_stored, rd.small.bytes);
          own = own_whole;
        }

    rest_small : Small (drop p.len b) s d l
    rest_small =
        record {
          bytes = omega (arith, length-drop p.len b, rd.small.bytes);
          payload = rd.small.payload;
          decoded = rd.small.decoded;
          last = rd.small.last;
        }

    pub ready_nowhere : p.negated ≡ true → ReadyItems sls (drop p.len b) s d l chosen
    ready_nowhere n =
        let rest = constraints sls (drop p.len b) in
        let room : positives (constraints all b) ≡ positives rest = ap positives (constraints_unmatched all sl sls u b p e n) ∙ positives_nowhere p _ _ in
        record { small = rest_small; stored = omega (arith, length-drop p.len b, pattern_stored); room = omega (arith, rd.room, room) }

    pub ready_placed : p.negated ≡ false → Trying sls (drop p.len b) p (take p.len b) s d l chosen
    ready_placed n =
        let rest = constraints sls (drop p.len b) in
        let room : positives (constraints all b) ≡ 1 + positives rest = ap positives (constraints_matched all sl sls u b p e n) ∙ positives_placed p _ _ in
        record {
          small = rest_small;
          len = omega (arith, pattern_stored, rd.small.bytes);
          own = own_whole;
          stored = omega (arith, length-drop p.len b, pattern_stored);
          room = omega (arith, rd.room, room);
        }

-- a pattern that is to be placed, and the items after it with its start chosen
module _ (sls : List Slot) (b : List ℕ) (p : Pattern) (own s d : List ℕ) (l : Option Match) (chosen : Placement) (tr : Trying sls b p own s d l chosen) where
  pub trying_bounded : Bounded s d p own l
  trying_bounded = record { payload = tr.small.payload; decoded = tr.small.decoded; last = tr.small.last; pattern = tr.len; own = tr.own }

  last_small : (at : Start) → at.at + p.len < size_bound → last_end (last_after l p at) < size_bound
  last_small at h = by_cases p.negated (λ t. rw t tr.small.last) (λ t. rw t h)

  pub ready_next : (at : Start) (next : Option Match) (ws : Placement) → at.at + p.len < size_bound → next ≡ last_after l p at → ws ≡ push chosen at
      → ReadyItems sls b s d next ws
  ready_next at next ws h en ew =
      record {
        small = record { bytes = tr.small.bytes; payload = tr.small.payload; decoded = tr.small.decoded; last = rw en (last_small at h) };
        stored = tr.stored;
        room = rw ew tr.room;
      }

-- ---- what it answers: an item that holds leaves the answer to those after it

module _ (v : View) (l : Option Match) (chosen : Placement) (on-bound : Bool) (q : List Start) (ws : List Constraint) where
  module _ (it : Item) (al : List Address) where
    pub test_yes : test_holds v it al l ≡ true → answer chosen on-bound q (placements v (tested it al ∷ ws) l) ≡ answer chosen on-bound q (placements v ws l)
    unfolding placements
    test_yes h = rw h

    pub test_no : test_holds v it al l ≡ false → answer chosen on-bound q (placements v (tested it al ∷ ws) l) ≡ None
    unfolding placements
    test_no h = rw h (answer_nothing chosen on-bound q)

  module _ (p : Pattern) (b : List ℕ) where
    pub nowhere_yes : unmatched_holds v p b l ≡ true
        → answer chosen on-bound q (placements v (unmatched p b ∷ ws) l) ≡ answer chosen on-bound q (placements v ws l)
    unfolding placements
    nowhere_yes h = rw h

    pub nowhere_no : unmatched_holds v p b l ≡ false → answer chosen on-bound q (placements v (unmatched p b ∷ ws) l) ≡ None
    unfolding placements
    nowhere_no h = rw h (answer_nothing chosen on-bound q)

pub after_last : (v : View) (l : Option Match) (chosen : Placement) (on-bound : Bool) (q : List Start) (b : List ℕ)
    → answer chosen on-bound q (placements v (constraints [] b) l) ≡ answer chosen on-bound q ([] ∷ [])
unfolding placements constraints
after_last v l chosen on-bound q b = refl
