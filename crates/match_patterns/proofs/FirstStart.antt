-- The first start that passes a test: how a walk comes to it, and what is known there.
use mathlib.Core.Path.{◌≡◌, refl, sym, ap, ◌∙◌}
use mathlib.Core.Bool.{Bool, true, false}
use Rattle.std.specs.Prelude.{Option}
use Prim.Native.Nat.{ℕ, zero, suc, ◌+◌, ◌-◌, ◌≤◌, ◌<◌, max}
use native.Mathlib.Omega.{arith}
use native.Mathlib.Numerals.{add-one}
use native.Mathlib.Nat.{add-zero}
use lib.Dec.{leb, ltb}
use Rattle.std.specs.List.{find, range_with_len}
use Rattle.std.specs.Option.{option_map, unwrap_or}
use borrow.Author.Tests.{ltb-true, ltb-false, le-leb, lt-leb}
use Rattle.forms.proofs.Bools.{by_cases}
use Rattle.std.proofs.lemmas.Iterator.Adapters.{option_map_id}
use Rattle.definitions.specs.Lists.{none?, keep}
use Rattle.match_patterns.specs.Starts.{first_start}
use Rattle.match_patterns.proofs.Listing.{from, passed, met, ended}

module _ (f : ℕ → Bool) where
  -- what a start that does not pass hands on to the next one is known at the first that passes
  pub first_reached : (P : ℕ → Type 0) → ((x : ℕ) → f x ≡ false → P x → P (x + 1)) → (n at : ℕ) → P at → P (first_start f at n)
  unfolding first_start
  first_reached P on zero at p = p
  first_reached P on (suc n) at p =
      by_cases (f at)
      (λ t. rw t p)
      (λ t. rw t (first_reached P on n (suc at) (rw (sym (add-one at)) (on at t p))))

  -- the walk as the library's search among the starts
  first_found : (n at none : ℕ) → none ≡ at + n → unwrap_or (find f (range_with_len at n)) none ≡ first_start f at n
  unfolding first_start
  first_found zero at none e = e ∙ add-zero at
  first_found (suc n) at none e =
      by_cases (f at)
      (λ t. rw t)
      (λ t. rw t (rw (add-one at) (first_found n (suc at) none (omega (arith, e)))))

  passes : (n at : ℕ) → first_start f at n < at + n → f (first_start f at n) ≡ true
  unfolding first_start
  passes zero at h = absurd (omega arith)
  passes (suc n) at h = by_cases (f at) (λ t. rw t t) (λ t. rw t (passes n (suc at) (omega (arith, rw t at h))))

  pub found_first : (at m none : ℕ) (r : Option ℕ) → option_map (λ x. x) r ≡ find f (range_with_len at (m - at)) → none ≡ max at m
      → unwrap_or r none ≡ first_start f at (m - at)
  found_first at m none r e h =
      ap (λ (o : Option ℕ). unwrap_or o none) (sym (option_map_id r) ∙ e) ∙ first_found (m - at) at none (omega (arith, h))

  module _ (m at : ℕ) where
    -- the first start before m, from `at` on
    abbrev first : ℕ
    first = first_start f at (m - at)

    pub first_not_before : at ≤ first
    first_not_before = first_reached (λ x. at ≤ x) (λ x t h. omega arith) (m - at) at (omega arith)

    pub first_passes : first < m → f first ≡ true
    first_passes h = passes (m - at) at (omega (arith, first_not_before))

    -- no start passes exactly if the first that does would be m or more
    pub none_passes : none? (keep f (from at m)) ≡ leb m first
    none_passes =
        let same : none? (keep f (from at m)) ≡ none? (keep f (from first m)) =
        first_reached (λ x. none? (keep f (from at m)) ≡ none? (keep f (from x m))) (λ x t e. e ∙ ap none? (passed f m x t)) (m - at) at refl in
        by_cases (ltb first m)
        (λ t. let h = ltb-true first m t in same ∙ met f m first h (first_passes h) ∙ sym (lt-leb m first h))
        (λ t. let h = ltb-false first m t in same ∙ ended f m first h ∙ sym (le-leb m first h))

  -- a walk that goes on after a start comes closer to its end
  pub walk_shorter : {m at r : ℕ} → r ≡ first_start f (at + 1) (m - (at + 1)) → at < m → m - r < m - at
  walk_shorter {m} {at} e h = omega (arith, e, first_not_before m (at + 1))
