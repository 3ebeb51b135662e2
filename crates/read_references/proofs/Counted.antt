-- The walk over the slots in use: what is counted and what the slots from a place on add make the count of all.
use Rattle.std.specs.Prelude.{Option, None}
use mathlib.Core.Path.{◌≡◌, refl, ap, sym, ◌∙◌}
use mathlib.Core.Bool.{true, false}
use mathlib.Core.List.{List, ◌∷◌}
use Prim.Native.Nat.{ℕ, ◌+◌, ◌≤◌, ◌<◌}
use native.Mathlib.Omega.{arith}
use native.Mathlib.Nat.{add-zero, zero-add}
use lib.ListN.{length, get_or, drop, drop_of_length-le}
use Rattle.definitions.specs.declared.packets.Match.{Match}
use Rattle.definitions.specs.declared.table.Item.TheVariants as item
use Rattle.definitions.specs.declared.table.Pattern.{Pattern}
use Rattle.definitions.specs.declared.table.Slot.{Slot}
use Rattle.definitions.specs.Items.{Kind, kind_of, pattern_first, patterns_of}
use Rattle.definitions.specs.Starts.{start_at}
use Rattle.definitions.specs.References.{last_after, usable, usable_run}
use Rattle.definitions.proofs.OtherItems.{other_kind}
use Rattle.list_laws.proofs.Every.{drop_here}

-- so many patterns are counted at the place i, with the last positive one among them
pub record Counted (sls : List Slot) (i count : ℕ) (last : Option Match) : Type 0 where
  pub few : count ≤ i
  pub same : usable_run None (patterns_of sls) ≡ count + usable_run last (patterns_of (drop i sls))

module _ (sls : List Slot) where
  pub counted_in : Counted sls 0 0 None
  counted_in = record { few = omega arith; same = sym (zero-add _) }

  module _ (i count : ℕ) (last : Option Match) (k : Counted sls i count last) where
    pub counted_out : length sls ≤ i → count ≡ usable_run None (patterns_of sls)
    unfolding patterns_of usable_run
    counted_out h = sym (k.same ∙ rw (drop_of_length-le sls {i = i} h) (add-zero count))

    module _ (d : Slot) (h : i < length sls) where
      here : patterns_of (drop i sls) ≡ pattern_first (kind_of (get_or sls i d).item) (patterns_of (drop (i + 1) sls))
      unfolding patterns_of
      here = rw (drop_here sls i d h) refl

      pub counted_past : ((p : Pattern) → (get_or sls i d).item ≡ item.Pattern p → ⊥) → Counted sls (i + 1) count last
      counted_past other =
          let ps = patterns_of (drop (i + 1) sls) in
          let none = other_kind (λ (k : Kind). pattern_first k ps ≡ ps) refl (λ a. refl) refl (get_or sls i d).item other in
          record { few = omega (arith, k.few); same = k.same ∙ ap (λ l. count + usable_run last l) (here ∙ none) }

      module _ (p : Pattern) (e : (get_or sls i d).item ≡ item.Pattern p) where
        one : patterns_of (drop i sls) ≡ p ∷ patterns_of (drop (i + 1) sls)
        one = here ∙ ap (λ it. pattern_first (kind_of it) (patterns_of (drop (i + 1) sls))) e

        pub counted_on : usable last p ≡ true → Counted sls (i + 1) (count + 1) (last_after last p (start_at 0))
        unfolding usable_run
        counted_on t = record { few = omega (arith, k.few); same = k.same ∙ rw (one, t) (omega arith) }

        pub counted_not : usable last p ≡ false → count ≡ usable_run None (patterns_of sls)
        unfolding usable_run
        counted_not f = sym (k.same ∙ rw (one, f) (add-zero count))
