-- The first of a list of placements after one to pass, where the list is made start by start: a start that lies adds the placements with it, a
-- start before the one to pass adds nothing.
use Rattle.std.specs.Prelude.{None}
use mathlib.Core.Path.{◌≡◌, refl, ap, ◌∙◌}
use mathlib.Core.Bool.{Bool, true, false, ◌&&◌}
use mathlib.Core.List.{List, [], ◌∷◌, ◌++◌, map}
use Prim.Native.Nat.{ℕ, zero, suc, ◌+◌, ◌-◌, ◌≤◌, ◌<◌, max}
use native.Mathlib.Omega.{arith}
use native.Mathlib.Numerals.{add-one}
use lib.Dec.{ltb, leb}
use borrow.Author.Tests.{ltb-true, ltb-false, leb-true, leb-false}
use Rattle.forms.proofs.Bools.{by_cases}
use Rattle.definitions.specs.declared.packets.Start.{Start}
use Rattle.definitions.specs.declared.packets.Placement.{Placement}
use Rattle.definitions.specs.Lists.{keep, keep_one}
use Rattle.definitions.specs.Starts.{start_at, start_before, same_start}
use Rattle.definitions.specs.Placements.{lex_less, up_from, spread}
use Rattle.laws.proofs.StartOrder.{before_asymmetric, before_total, before_differs, after_differs, number_before}
use Rattle.laws.proofs.Keep.{keep_append}
use Rattle.match_patterns.proofs.Listing.{from, passed}
use Rattle.search_state.specs.Choosing.{push, extend, first_of, answer, after_if, found_or, start_from}

-- ---- starts that pass a test, from one on: here numbers become starts

abbrev pub starts_from : (ℕ → Bool) → ℕ → ℕ → List Start
starts_from h at m = map start_at (keep h (from at m))

module _ (h : ℕ → Bool) (at m : ℕ) where
  pub starts_met : at < m → h at ≡ true → starts_from h at m ≡ start_at at ∷ starts_from h (at + 1) m
  unfolding up_from keep
  starts_met l e = let n : m - at ≡ suc (m - (at + 1)) = omega arith in rw (n, e, add-one at)

  pub starts_past : h at ≡ false → starts_from h at m ≡ starts_from h (at + 1) m
  starts_past e = ap (map start_at) (passed h m at e)

  pub starts_out : m ≤ at → starts_from h at m ≡ []
  unfolding up_from keep
  starts_out l = let n : m - at ≡ 0 = omega arith in rw n

-- ---- lists of placements

first_of-append : (chosen : Placement) (xs ys : List (List Start)) → first_of chosen (xs ++ ys) ≡ found_or (first_of chosen xs) (first_of chosen ys)
first_of-append chosen [] ys = refl
first_of-append chosen (x ∷ xs) ys = refl

first_of-map : (chosen : Placement) (s : Start) (l : List (List Start)) → first_of chosen (map (λ (q : List Start). s ∷ q) l) ≡ first_of (push chosen s) l
unfolding extend
first_of-map chosen s [] = refl
first_of-map chosen s (q ∷ l) = refl

-- s before each: after a ∷ p is after p where s is a, and always where s comes after a
after_cons : (on-bound : Bool) (a s : Start) (p q : List Start) → (on-bound ≡ true → start_before s a ≡ false)
    → after_if on-bound (a ∷ p) (s ∷ q) ≡ after_if (on-bound && same_start a s) p q
unfolding lex_less
after_cons false a s p q h = refl
after_cons true a s p q h = by_cases (start_before a s) (λ t. rw (t, before_differs a s t)) (λ f. rw (f, before_total a s f (h refl)))

keep_cons : (on-bound : Bool) (a s : Start) (p : List Start) (l : List (List Start)) → (on-bound ≡ true → start_before s a ≡ false)
    → keep (after_if on-bound (a ∷ p)) (map (λ (q : List Start). s ∷ q) l) ≡ map (λ (q : List Start). s ∷ q) (keep (after_if (on-bound && same_start a s) p) l)
unfolding keep
keep_cons on-bound a s p [] h = refl
keep_cons on-bound a s p (q ∷ l) h =
    rw (after_cons on-bound a s p q h, keep_cons on-bound a s p l h)
    (one (after_if (on-bound && same_start a s) p q) q (keep (after_if (on-bound && same_start a s) p) l))
  where
    one : (t : Bool) (q : List Start) (l : List (List Start))
        → keep_one t (s ∷ q) (map (λ (q : List Start). s ∷ q) l) ≡ map (λ (q : List Start). s ∷ q) (keep_one t q l)
    one true q l = refl
    one false q l = refl

-- s before each, s before a: none is after a ∷ p
keep_less : (a s : Start) (p : List Start) (l : List (List Start)) → start_before s a ≡ true
    → keep (after_if true (a ∷ p)) (map (λ (q : List Start). s ∷ q) l) ≡ []
unfolding keep lex_less
keep_less a s p [] h = refl
keep_less a s p (q ∷ l) h = rw (before_asymmetric s a h, after_differs s a h) (keep_less a s p l h)

-- ---- start by start; f are the placements of the items left after each start

module _ (f : Start → List (List Start)) (a : Start) (p : List Start) where
  -- a start that lies: the answer with it, or else the answer with the later ones
  pub answer_cons : (chosen : Placement) (on-bound : Bool) (x : Start) (xs : List Start) → (on-bound ≡ true → start_before x a ≡ false)
      → answer chosen on-bound (a ∷ p) (spread f (x ∷ xs))
      ≡ found_or (answer (push chosen x) (on-bound && same_start a x) p (f x)) (answer chosen on-bound (a ∷ p) (spread f xs))
  unfolding answer spread
  answer_cons chosen on-bound x xs h =
      rw (
        keep_append (after_if on-bound (a ∷ p)) (map (λ (q : List Start). x ∷ q) (f x)) (spread f xs),
        keep_cons on-bound a x p (f x) h,
        first_of-append chosen (map (λ (q : List Start). x ∷ q) (keep (after_if (on-bound && same_start a x) p) (f x)))
            (keep (after_if on-bound (a ∷ p)) (spread f xs)),
        first_of-map chosen x (keep (after_if (on-bound && same_start a x) p) (f x)),
      )

  module _ (h : ℕ → Bool) (m : ℕ) where
    -- those after a ∷ p of the placements with a start from x on
    abbrev after_from : ℕ → List (List Start)
    after_from x = keep (after_if true (a ∷ p)) (spread f (starts_from h x m))

    -- a start before a adds nothing after a ∷ p; so starts before a need no try
    less_met : (x : ℕ) → x < a.at → h x ≡ true → x < m → after_from x ≡ after_from (x + 1)
    unfolding spread
    less_met x l e k =
        rw (
          starts_met h x m k e,
          keep_append (after_if true (a ∷ p)) (map (λ (q : List Start). start_at x ∷ q) (f (start_at x))) (spread f (starts_from h (x + 1) m)),
          keep_less a (start_at x) p (f (start_at x)) (number_before x a l),
        )

    less_one : (x : ℕ) → x < a.at → after_from x ≡ after_from (x + 1)
    less_one x l =
        by_cases (h x)
        (λ e.
        by_cases (ltb x m)
        (λ t. less_met x l e (ltb-true x m t))
        (λ t. let k = ltb-false x m t in rw (starts_out h x m k, starts_out h (x + 1) m (omega arith))))
        (λ e. ap (λ (k : List Start). keep (after_if true (a ∷ p)) (spread f k)) (starts_past h x m e))

    less_all : (n x : ℕ) → x + n ≡ a.at → after_from x ≡ after_from a.at
    less_all zero x e = let y : x ≡ a.at = omega arith in ap after_from y
    less_all (suc n) x e = less_one x (omega arith) ∙ less_all n (x + 1) (omega arith)

    pub answer_from : (chosen : Placement) (on-bound : Bool) (x : ℕ)
        → answer chosen on-bound (a ∷ p) (spread f (starts_from h x m)) ≡ answer chosen on-bound (a ∷ p) (spread f (starts_from h (start_from on-bound a x) m))
    unfolding answer
    answer_from chosen false x = refl
    answer_from chosen true x =
        by_cases (leb a.at x)
        (λ t. let l = leb-true a.at x t in let y : max a.at x ≡ x = omega arith in rw y)
        (λ t. let l = leb-false a.at x t in let y : max a.at x ≡ a.at = omega arith in rw y (ap (first_of chosen) (less_all (a.at - x) x (omega arith))))

pub answer_nothing : (chosen : Placement) (on-bound : Bool) (p : List Start) → answer chosen on-bound p [] ≡ None
unfolding answer keep
answer_nothing chosen on-bound p = refl
