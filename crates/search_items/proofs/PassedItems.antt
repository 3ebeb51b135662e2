-- The items that the search has gone over: tests and negated patterns that hold leave the answer to the items after them.
use Rattle.std.specs.Prelude.{Option, None}
use mathlib.Core.Path.{◌≡◌, sym, ap, ◌∙◌}
use mathlib.Core.Bool.{Bool, true, false}
use mathlib.Core.List.{List, [], ◌∷◌}
use Prim.Native.Nat.{ℕ, ◌+◌, ◌-◌, ◌≤◌, ◌<◌}
use native.Mathlib.Omega.{arith}
use lib.ListN.{length, take, drop, get_or, length-drop}
use lib.Seq.{take_all, drop-drop}
use Rattle.definitions.specs.declared.table.Pattern.{Pattern}
use Rattle.definitions.specs.declared.table.Item.TheVariants as item
use Rattle.definitions.specs.declared.table.Slot.{Slot}
use Rattle.definitions.specs.declared.packets.Start.{Start}
use Rattle.definitions.specs.declared.packets.Placement.{Placement}
use Rattle.definitions.specs.Limits.{max_items}
use Rattle.definitions.specs.Fields.{View}
use Rattle.definitions.specs.Tests.{test_holds}
use Rattle.definitions.specs.Placements.{Constraint, matched, unmatched, tested, constraints, unmatched_holds, placements}
use Rattle.fields.specs.Seen.{seen}
use Rattle.match_items.specs.Bounds.{Bounded}
use Rattle.search_state.specs.Choosing.{answer}
use Rattle.search_state.specs.declared.input.SearchInput.{SearchInput}
use Rattle.definitions.specs.declared.packets.Match.{Match}
use Rattle.search_state.specs.Inputs.{items_left, slot0}
use Rattle.search_items.specs.Items.{ReadyItems, Trying}
use Rattle.search_items.proofs.Stepping as stepping
use Rattle.search_items.proofs.Stepping.{NoPattern}

-- the parts of the pattern bytes that the code takes: n of them from a place on, and all from a place on
abbrev pub own_of : List ℕ → ℕ → ℕ → List ℕ
own_of b from n = take (from + n - from) (drop from b)

abbrev pub rest_of : List ℕ → ℕ → List ℕ
rest_of b to = take (length b - to) (drop to b)

module _ (b : List ℕ) (from n : ℕ) where
  own_is : own_of b from n ≡ take n (drop from b)
  own_is = let e : from + n - from ≡ n = omega arith in rw e

  rest_is : rest_of b (from + n) ≡ drop n (drop from b)
  rest_is = take_all (length b - (from + n)) (drop (from + n) b) (omega (arith, length-drop (from + n) b)) ∙ sym (drop-drop n from b)

-- what the search answers for some items wanted
abbrev pub found : SearchInput → List ℕ → List ℕ → Option Match → Placement → Bool → List Constraint → Option Placement
found q s d l chosen on-bound ws = answer chosen on-bound (drop chosen.count q.bound) (placements (seen q.header s d q.map) ws l)

-- what is known at each turn: the items from the k-th up to the i-th are gone over, and of the pattern bytes b those up to `from`; the items from the i-th on
-- decide
pub record Gone (q : SearchInput) (k : ℕ) (b s d : List ℕ) (l : Option Match) (chosen : Placement) (on-bound : Bool) (i from : ℕ) : Type 0 where
  pub few : q.count ≤ max_items
  pub held : q.count ≤ length q.items
  pub on : k ≤ i
  pub inside : from ≤ length b
  pub ready : ReadyItems (items_left q i) (drop from b) s d l chosen
  pub same : found q s d l chosen on-bound (constraints (items_left q k) b) ≡ found q s d l chosen on-bound (constraints (items_left q i) (drop from b))

module _ {q : SearchInput} {k : ℕ} {b s d : List ℕ} {l : Option Match} {chosen : Placement} {on-bound : Bool} {i from : ℕ}
    (g : Gone q k b s d l chosen on-bound i from) where
  abbrev view : View
  view = seen q.header s d q.map

  abbrev passed : List Start
  passed = drop chosen.count q.bound

  abbrev all : List Slot
  all = items_left q i

  abbrev left : List ℕ
  left = drop from b

  -- after the last item
  pub gone_out : q.count ≤ i → (r : Option Placement) → r ≡ answer chosen on-bound passed ([] ∷ []) → r ≡ found q s d l chosen on-bound (constraints (items_left q k) b)
  gone_out h r e =
      let none = ap (λ (sls : List Slot). found q s d l chosen on-bound (constraints sls left)) (stepping.left_out q i h) in
      e ∙ sym (g.same ∙ none ∙ stepping.after_last view l chosen on-bound passed left)

  -- the i-th item, and those after it
  module _ (more : i < q.count) where
    abbrev sl : Slot
    sl = get_or q.items i slot0

    abbrev sls : List Slot
    sls = items_left q (i + 1)

    here : all ≡ sl ∷ sls
    here = stepping.left_here q i more g.held

    module _ (no : NoPattern sl.item) {t : Bool} (e : t ≡ test_holds view sl.item sl.addresses l) where
      test-first : found q s d l chosen on-bound (constraints (items_left q k) b)
          ≡ found q s d l chosen on-bound (tested sl.item sl.addresses ∷ constraints sls left)
      test-first = g.same ∙ ap (found q s d l chosen on-bound) (stepping.constraints_test all sl sls here left no)

      pub gone-test : t ≡ true → Gone q k b s d l chosen on-bound (i + 1) from
      gone-test n =
          record {
            few = g.few;
            held = g.held;
            on = omega (arith, g.on);
            inside = g.inside;
            ready = stepping.ready_test all sl sls here left s d l chosen g.ready no;
            same = test-first ∙ stepping.test_yes view l chosen on-bound passed (constraints sls left) sl.item sl.addresses (sym e ∙ n);
          }

      pub stop-test : t ≡ false → None ≡ found q s d l chosen on-bound (constraints (items_left q k) b)
      stop-test n =
          sym (test-first ∙ stepping.test_no view l chosen on-bound passed (constraints sls left) sl.item sl.addresses (sym e ∙ n))

    module _ {p : Pattern} (e : sl.item ≡ item.Pattern p) where
      pub pattern-inside : from + p.len ≤ length b
      pattern-inside = omega (arith, stepping.pattern_stored all sl sls here left s d l chosen g.ready p e, g.inside, length-drop from b)

      pub pattern_bounded : Bounded s d p (own_of b from p.len) l
      pattern_bounded = rw (own_is b from p.len) (stepping.pattern_bounded all sl sls here left s d l chosen g.ready p e)

      module _ (n : p.negated ≡ false) where
        pub pattern-trying : Trying sls (rest_of b (from + p.len)) p (own_of b from p.len) s d l chosen
        pattern-trying = rw (own_is b from p.len, rest_is b from p.len) (stepping.ready_placed all sl sls here left s d l chosen g.ready p e n)

        pub placed_first : (r : Option Placement) → r ≡ found q s d l chosen on-bound (matched p (own_of b from p.len) ∷ constraints sls (rest_of b (from + p.len)))
            → r ≡ found q s d l chosen on-bound (constraints (items_left q k) b)
        placed_first r h =
            (rw (own_is b from p.len, rest_is b from p.len) at h)
            ∙ sym (g.same ∙ ap (found q s d l chosen on-bound) (stepping.constraints_matched all sl sls here left p e n))

      module _ (n : p.negated ≡ true) {t : Bool} (h : t ≡ unmatched_holds view p (own_of b from p.len) l) where
        abbrev own : List ℕ
        own = take p.len left

        abbrev rest : List ℕ
        rest = drop p.len left

        holds : t ≡ unmatched_holds view p own l
        holds = rw (own_is b from p.len) at h

        nowhere-first : found q s d l chosen on-bound (constraints (items_left q k) b) ≡ found q s d l chosen on-bound (unmatched p own ∷ constraints sls rest)
        nowhere-first = g.same ∙ ap (found q s d l chosen on-bound) (stepping.constraints_unmatched all sl sls here left p e n)

        pub gone-nowhere : t ≡ true → Gone q k b s d l chosen on-bound (i + 1) (from + p.len)
        gone-nowhere y =
            record {
              few = g.few;
              held = g.held;
              on = omega (arith, g.on);
              inside = pattern-inside;
              ready = rw drop-drop at (stepping.ready_nowhere all sl sls here left s d l chosen g.ready p e n);
              same = rw drop-drop at (nowhere-first
                  ∙ stepping.nowhere_yes view l chosen on-bound passed (constraints sls rest) p own (sym holds ∙ y));
            }

        pub stop-nowhere : t ≡ false → None ≡ found q s d l chosen on-bound (constraints (items_left q k) b)
        stop-nowhere y = sym (nowhere-first ∙ stepping.nowhere_no view l chosen on-bound passed (constraints sls rest) p own (sym holds ∙ y))
