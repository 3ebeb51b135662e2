-- THE ORDER OF PLACEMENTS, by the first start that differs: none is less than itself (`lex_less-not-self`), of two at most one is less than the other
-- (`lex_less-not-both`), and it carries over (`lex_less-trans`). By the order of starts alone.
use mathlib.Core.Path.{◌≡◌, refl, sym, ◌∙◌, subst}
use mathlib.Core.Logic.{◌⊎◌, inl, inr}
use mathlib.Core.Bool.{Bool, true, false, ◌&&◌, ◌||◌, false≢true}
use mathlib.Core.List.{List, [], ◌∷◌}
use Prim.Native.Nat.{ℕ, zero, suc, ◌≤◌}
use native.Mathlib.Omega.{arith}
use lib.ListN.{length, take}
use Rattle.definitions.specs.declared.packets.Start.{Start}
use Rattle.definitions.specs.Starts.{start_before, same_start}
use Rattle.definitions.specs.Placements.{lex_less}
use Rattle.laws.proofs.StartOrder.{before_irreflexive, before_asymmetric, before_transitive, after_differs, same_reflexive, same_equal}

pub lex_less-not-both : (p q : List Start) → lex_less p q ≡ true → lex_less q p ≡ false
unfolding lex_less
lex_less-not-both [] [] h = refl
lex_less-not-both (a ∷ p) [] h = absurd (false≢true h)
lex_less-not-both [] (s ∷ q) h = refl
lex_less-not-both (a ∷ p) (s ∷ q) h = go (start_before a s) (same_start a s) refl refl (lex_less-not-both p q)
  where
    go : (x y : Bool) → start_before a s ≡ x → same_start a s ≡ y → (lex_less p q ≡ true → lex_less q p ≡ false)
        → (start_before s a || (same_start s a && lex_less q p)) ≡ false
    go true y e f ih = rw (before_asymmetric a s e, after_differs a s e)
    go false true e f ih = rw (same_equal a s f, before_irreflexive s, same_reflexive s) (ih (rw (e, f) at h))
    go false false e f ih = absurd (false≢true (rw (e, f) at h))

pub lex_less-not-self : (p : List Start) → lex_less p p ≡ false
unfolding lex_less
lex_less-not-self [] = refl
lex_less-not-self (a ∷ p) = rw (before_irreflexive a, same_reflexive a) (lex_less-not-self p)

pub lex_less-same : (s : Start) (p q : List Start) → lex_less p q ≡ true → lex_less (s ∷ p) (s ∷ q) ≡ true
unfolding lex_less
lex_less-same s p q h = rw (before_irreflexive s, same_reflexive s) h

pub lex_less-head : (a s : Start) (p q : List Start) → start_before a s ≡ true → lex_less (a ∷ p) (s ∷ q) ≡ true
unfolding lex_less
lex_less-head a s p q h = rw h

lex_less-cases : (x y : Start) (a b : List Start) → lex_less (x ∷ a) (y ∷ b) ≡ true → (start_before x y ≡ true) ⊎ ((x ≡ y) × (lex_less a b ≡ true))
unfolding lex_less
lex_less-cases x y a b h = go (start_before x y) (same_start x y) refl refl
  where
    go : (k l : Bool) → start_before x y ≡ k → same_start x y ≡ l → (start_before x y ≡ true) ⊎ ((x ≡ y) × (lex_less a b ≡ true))
    go true l ek el = inl ek
    go false true ek el = inr (same_equal x y el, rw (ek, el) at h)
    go false false ek el = absurd (false≢true (rw (ek, el) at h))

pub lex_less-trans : (a b c : List Start) → lex_less a b ≡ true → lex_less b c ≡ true → lex_less a c ≡ true
unfolding lex_less
lex_less-trans a b [] h g = g
lex_less-trans [] b (z ∷ c) h g = refl
lex_less-trans (x ∷ a) [] (z ∷ c) h g = absurd (false≢true h)
lex_less-trans (x ∷ a) (y ∷ b) (z ∷ c) h g = go (lex_less-cases x y a b h) (lex_less-cases y z b c g) (lex_less-trans a b c)
  where
    go : (start_before x y ≡ true) ⊎ ((x ≡ y) × (lex_less a b ≡ true)) → (start_before y z ≡ true) ⊎ ((y ≡ z) × (lex_less b c ≡ true))
        → (lex_less a b ≡ true → lex_less b c ≡ true → lex_less a c ≡ true) → lex_less (x ∷ a) (z ∷ c) ≡ true
    go (inl u) (inl v) ih = lex_less-head x z a c (before_transitive x y z u v)
    go (inl u) (inr v) ih = lex_less-head x z a c (subst (λ (w : Start). start_before x w ≡ true) v.0 u)
    go (inr u) (inl v) ih = lex_less-head x z a c (subst (λ (w : Start). start_before w z ≡ true) (sym u.0) v)
    go (inr u) (inr v) ih = subst (λ (w : Start). lex_less (w ∷ a) (z ∷ c) ≡ true) (sym (u.0 ∙ v.0)) (lex_less-same z a c (ih u.1 v.1))

-- of a placement only as many starts matter as the other one has
pub lex_less-take : (n : ℕ) (ss q : List Start) → length q ≤ n → lex_less ss q ≡ lex_less (take n ss) q
unfolding lex_less
lex_less-take n ss [] h = refl
lex_less-take zero ss (s ∷ q) h = absurd (let z : ⊥ = omega arith in z)
lex_less-take (suc n) [] (s ∷ q) h = refl
lex_less-take (suc n) (a ∷ ss) (s ∷ q) h = rw (lex_less-take n ss q (omega arith))
