-- The walk over the slots in use: with each slot that may be passed, what is counted and what is still to come make the same answer; a slot that
-- may not be passed makes it false.
use Rattle.std.specs.Prelude.{Option}
use mathlib.Core.Path.{◌≡◌, refl, ap, sym, ◌∙◌}
use mathlib.Core.Bool.{Bool, true, false, ◌&&◌, and-true, and-false}
use mathlib.Core.List.{List, [], ◌∷◌}
use Prim.Native.Nat.{ℕ, suc, ◌+◌, ◌-◌, ◌≤◌, ◌<◌}
use native.Mathlib.Omega.{arith}
use native.Mathlib.Nat.{add-zero, zero-add}
use lib.ListN.{length, get_or, drop, drop_of_length-le}
use lib.Dec.{eqb, leb, eqb-zero-suc, eqb-suc-suc}
use borrow.Author.Tests.{leb-true, leb-false, eqb-true, eqb-false, eq-eqb, ne_eqb}
use Rattle.forms.proofs.Bools.{by_cases, both_left, both_right}
use Rattle.definitions.specs.declared.table.Pattern.{Pattern}
use Rattle.definitions.specs.declared.table.Slot.{Slot}
use Rattle.definitions.specs.Limits.{max_patterns, max_tests}
use Rattle.definitions.specs.Lists.{all?}
use Rattle.definitions.specs.Items.{Kind, unused, addressed, patterned, plain_test, kind_of, pattern_first, patterns_of}
use Rattle.definitions.specs.Starts.{start_at}
use Rattle.definitions.specs.References.{last_after, usable, usable_run}
use Rattle.definitions.specs.WellFormed.{slot_fits, bytes_of}
use Rattle.list_laws.proofs.Every.{drop_here}
use Rattle.table_items.specs.declared.Passed.{Passed}
use Rattle.definitions.specs.declared.packets.Match.{Match}
use Rattle.table_items.specs.Passing.{none_passed, may_follow, kind_passes, may_pass, past_kind, past_item, ends_well}
use Rattle.table_well_formed.specs.ItemsTest.{slots_fit}

-- counting down from a number decides whether it is the sum
sum_short : (left n m : ℕ) → left < n → eqb left (n + m) ≡ false
sum_short left n m h = ne_eqb left (n + m) (λ e. omega (arith, e))

sum_less : (left n m : ℕ) → n ≤ left → eqb left (n + m) ≡ eqb (left - n) m
sum_less left n m h =
    by_cases (eqb (left - n) m)
    (λ t. rw t (eq-eqb left (n + m) (omega (arith, eqb-true (left - n) m t))))
    (λ f. rw f (ne_eqb left (n + m) (λ e. eqb-false (left - n) m f (omega (arith, e)))))

-- one pattern more: the patterns from it on are usable where it is and those after it are
module _ (last : Option Match) (p : Pattern) (ps : List Pattern) where
  run_on : usable last p ≡ true → eqb (usable_run last (p ∷ ps)) (length (p ∷ ps)) ≡ eqb (usable_run (last_after last p (start_at 0)) ps) (length ps)
  unfolding usable_run
  run_on t =
      let n = usable_run (last_after last p (start_at 0)) ps in
      let one : 1 + n ≡ suc n = omega arith in
      rw t (ap (λ (k : ℕ). eqb k (suc (length ps))) one ∙ eqb-suc-suc n (length ps))

  run_not : usable last p ≡ false → eqb (usable_run last (p ∷ ps)) (length (p ∷ ps)) ≡ false
  unfolding usable_run
  run_not f = rw f (eqb-zero-suc (length ps))

-- what the walk will end with, where the patterns ps are still to come
counts : ℕ → ℕ → Bool → Bool → Bool
counts count patterns spent run = leb patterns max_patterns && (leb (count - patterns) max_tests && (spent && run))

ending : ℕ → Passed → List Pattern → Bool
ending count w ps = counts count (w.patterns + length ps) (eqb w.left (bytes_of ps)) (eqb (usable_run w.last ps) (length ps))

not_spent : (count patterns : ℕ) (run : Bool) → counts count patterns false run ≡ false
unfolding counts
not_spent count patterns run = simp and-false

not_run : (count patterns : ℕ) (spent : Bool) → counts count patterns spent false ≡ false
unfolding counts
not_run count patterns spent = simp and-false

module _ (count : ℕ) (w : Passed) (ps : List Pattern) where
  pattern_on : (p : Pattern) → may_follow w p ≡ true → ending count w (p ∷ ps) ≡ ending count (past_kind w (patterned p)) ps
  unfolding ending bytes_of
  pattern_on p t =
      let few = leb-true p.len w.left (both_left (leb p.len w.left) _ t) in
      let more : w.patterns + suc (length ps) ≡ w.patterns + 1 + length ps = omega arith in
      cc (more, sum_less w.left p.len (bytes_of ps) few, run_on w.last p ps (both_right (leb p.len w.left) _ t))

  pattern_not : (p : Pattern) → may_follow w p ≡ false → ending count w (p ∷ ps) ≡ false
  unfolding ending bytes_of
  pattern_not p f =
      by_cases (leb p.len w.left)
      (λ t. rw (run_not w.last p ps (rw t at f)) (not_run _ _ _))
      (λ n. rw (sum_short w.left p.len (bytes_of ps) (leb-false _ _ n)) (not_spent _ _ _))

  kind_on : (k : Kind) → kind_passes w k ≡ true → ending count w (pattern_first k ps) ≡ ending count (past_kind w k) ps
  kind_on unused t = refl
  kind_on (addressed a) t = refl
  kind_on (patterned p) t = pattern_on p t
  kind_on plain_test t = refl

  kind_not : (k : Kind) → kind_passes w k ≡ false → ending count w (pattern_first k ps) ≡ false
  kind_not unused f = cc
  kind_not (addressed a) f = cc
  kind_not (patterned p) f = pattern_not p f
  kind_not plain_test f = cc

-- the walk's answer, where the slots sls are still to come
pub answer : ℕ → Passed → List Slot → Bool
answer count w sls = all? slot_fits sls && ending count w (patterns_of sls)

module _ (count : ℕ) where
  walk_in : (used : ℕ) (sls : List Slot) → answer count (none_passed used) sls ≡ slots_fit count used sls
  unfolding answer slots_fit ending counts
  walk_in used sls = rw zero-add

  walk_out : (w : Passed) → answer count w [] ≡ ends_well w count
  unfolding answer ending counts all? patterns_of bytes_of usable_run
  walk_out w = rw (add-zero, and-true)

  module _ (w : Passed) (sl : Slot) (sls : List Slot) where
    walk_on : may_pass w sl ≡ true → answer count w (sl ∷ sls) ≡ answer count (past_item w sl) sls
    unfolding answer all? patterns_of
    walk_on t = rw (both_left (slot_fits sl) _ t, kind_on count w (patterns_of sls) (kind_of sl.item) (both_right (slot_fits sl) _ t))

    walk_not : may_pass w sl ≡ false → answer count w (sl ∷ sls) ≡ false
    unfolding answer all? patterns_of
    walk_not f =
        by_cases (slot_fits sl)
        (λ t. rw (t, kind_not count w (patterns_of sls) (kind_of sl.item) (rw t at f)) (and-false (all? slot_fits sls)))
        (λ n. rw n)

-- what the loop keeps at the place i of the slots in use
pub record Walked (sls : List Slot) (count used i : ℕ) (w : Passed) : Type 0 where
  pub few : w.patterns ≤ i
  pub same : slots_fit count used sls ≡ answer count w (drop i sls)

past_few : (w : Passed) (k : Kind) → (past_kind w k).patterns ≤ w.patterns + 1
past_few w unused = omega arith
past_few w (addressed a) = omega arith
past_few w (patterned p) = omega arith
past_few w plain_test = omega arith

module _ (sls : List Slot) (count used : ℕ) where
  pub walked_in : Walked sls count used 0 (none_passed used)
  walked_in = record { few = omega arith; same = sym (walk_in count used sls) }

  module _ (i : ℕ) (w : Passed) (k : Walked sls count used i w) where
    pub walked_out : length sls ≤ i → slots_fit count used sls ≡ ends_well w count
    walked_out h = k.same ∙ ap (answer count w) (drop_of_length-le sls {i = i} h) ∙ walk_out count w

    module _ (d : Slot) (h : i < length sls) where
      pub walked_on : may_pass w (get_or sls i d) ≡ true → Walked sls count used (i + 1) (past_item w (get_or sls i d))
      walked_on t = record {
        few = omega (arith, k.few, past_few w (kind_of (get_or sls i d).item));
        same = k.same ∙ ap (answer count w) (drop_here sls i d h) ∙ walk_on count w (get_or sls i d) _ t;
      }

      pub walked-not : may_pass w (get_or sls i d) ≡ false → slots_fit count used sls ≡ false
      walked-not f = k.same ∙ ap (answer count w) (drop_here sls i d h) ∙ walk_not count w (get_or sls i d) _ f
