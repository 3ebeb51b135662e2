-- THE ORDER OF STARTS: a strict order, total up to being the same start, which is being equal. All that the laws of placements and of lists of them know of
-- a start is said here. At the end, how a number is placed in it.
use mathlib.Core.Path.{◌≡◌, sym, ap, ◌∙◌, subst}
use mathlib.Core.Bool.{true, false, true≢false}
use Prim.Native.Nat.{ℕ, ◌≤◌, ◌<◌}
use native.Mathlib.Omega.{arith}
use borrow.Author.Tests.{ltb-true, ltb-false, eqb-true, lt-ltb, le-ltb, eq-eqb}
use Rattle.forms.proofs.Bools.{by_cases}
use Rattle.definitions.specs.declared.packets.Start.{Start}
use Rattle.definitions.specs.Starts.{start_at, start_before, same_start}

-- ---- what is shown by opening a start

pub before_irreflexive : (a : Start) → start_before a a ≡ false
unfolding start_before
before_irreflexive a = le-ltb a.at a.at (omega arith)

pub before_transitive : (a b c : Start) → start_before a b ≡ true → start_before b c ≡ true → start_before a c ≡ true
unfolding start_before
before_transitive a b c h g = let x = ltb-true a.at b.at h in let y = ltb-true b.at c.at g in lt-ltb a.at c.at (omega arith)

pub before_total : (a b : Start) → start_before a b ≡ false → start_before b a ≡ false → same_start a b ≡ true
unfolding start_before same_start
before_total a b h g = let x = ltb-false a.at b.at h in let y = ltb-false b.at a.at g in eq-eqb a.at b.at (omega arith)

pub same_reflexive : (a : Start) → same_start a a ≡ true
unfolding same_start
same_reflexive a = eq-eqb a.at a.at (omega arith)

pub same_equal : (a b : Start) → same_start a b ≡ true → a ≡ b
unfolding same_start
same_equal a b h = ap start_at (eqb-true a.at b.at h)

-- ---- what follows of these

pub before_asymmetric : (a b : Start) → start_before a b ≡ true → start_before b a ≡ false
before_asymmetric a b h =
    by_cases (start_before b a) (λ t. absurd (true≢false (sym (before_transitive a b a h t) ∙ before_irreflexive a))) (λ f. f)

pub before_differs : (a b : Start) → start_before a b ≡ true → same_start a b ≡ false
before_differs a b h =
    by_cases (same_start a b)
    (λ t. absurd (true≢false (sym (subst (λ (x : Start). start_before x b ≡ true) (same_equal a b t) h) ∙ before_irreflexive b)))
    (λ f. f)

pub after_differs : (a b : Start) → start_before a b ≡ true → same_start b a ≡ false
after_differs a b h =
    by_cases (same_start b a)
    (λ t. absurd (true≢false (sym (subst (λ (x : Start). start_before a x ≡ true) (same_equal b a t) h) ∙ before_irreflexive a)))
    (λ f. f)

-- ---- a number as a start

pub number_before : (x : ℕ) (a : Start) → x < a.at → start_before (start_at x) a ≡ true
unfolding start_before
number_before x a h = lt-ltb x a.at h

pub number_not_before : (x : ℕ) (a : Start) → a.at ≤ x → start_before (start_at x) a ≡ false
unfolding start_before
number_not_before x a h = le-ltb x a.at h
