-- What is due: a later test matters only where no earlier one refuses, nothing is due only if no test refuses, and the number is 0 or that of
-- one of the tests' refusals. By cases on the tests.
use Rattle.std.specs.Prelude.{Result, Ok, Err}
use mathlib.Core.Path.{◌≡◌, refl, sym, subst}
use mathlib.Core.Bool.{Bool, true, false, false≢true}
use mathlib.Core.List.{List, [], ◌∷◌}
use Prim.Native.Nat.{ℕ}
use lib.Dec.{eqb}
use borrow.Author.Tests.{eqb-true}
pub use Rattle.std.proofs.lemmas.Bool.{or_parts as neither}
use Rattle.definitions.specs.declared.answers.Refusal.{Refusal}
use Rattle.definitions.specs.Lists.{any?, all?}
use Rattle.definitions.specs.Refusals.{number_of, check_number, refuse_if, and_then}

pub no_fine : {A : Type 0} (r : Refusal) → ◌≡◌ {A = Result Unit Refusal} (Err r) (Ok tt) → A
no_fine r e = let z : false ≡ true = cc in absurd (false≢true z)

pub refuse_same : (b : Bool) (r : Refusal) (d d' : Result Unit Refusal) → (b ≡ false → d ≡ d') → refuse_if b r d ≡ refuse_if b r d'
refuse_same true r d d' f = refl
refuse_same false r d d' f = f refl

pub refuse_fine : (b : Bool) (r : Refusal) (d : Result Unit Refusal) → refuse_if b r d ≡ Ok tt → (b ≡ false) × (d ≡ Ok tt)
refuse_fine true r d e = no_fine r e
refuse_fine false r d e = (refl, e)

-- what is told of the refusal, and of what is due else
pub refuse_by : (Q : Result Unit Refusal → Type 0) (b : Bool) (r : Refusal) (d : Result Unit Refusal) → Q (Err r) → Q d → Q (refuse_if b r d)
refuse_by Q true r d h g = h
refuse_by Q false r d h g = g

pub else_same : (c d d' : Result Unit Refusal) → (c ≡ Ok tt → d ≡ d') → and_then c d ≡ and_then c d'
else_same (Ok tt) d d' f = f refl
else_same (Err r) d d' f = refl

pub else_fine : (c d : Result Unit Refusal) → and_then c d ≡ Ok tt → (c ≡ Ok tt) × (d ≡ Ok tt)
else_fine (Ok tt) d e = (refl, e)
else_fine (Err r) d e = no_fine r e

-- ---- which numbers there are

abbrev pub among : List ℕ → ℕ → Bool
among l n = any? (eqb n) l

pub among_more : (k l : List ℕ) (n : ℕ) → all? (among l) k ≡ true → among k n ≡ true → among l n ≡ true
unfolding all? any?
among_more [] l n h e = absurd (false≢true e)
among_more (x ∷ k) l n h e = go (eqb n x) refl (among l x) refl (λ u w. among_more k l n u w)
  where
    go : (b : Bool) → eqb n x ≡ b → (c : Bool) → among l x ≡ c → (all? (among l) k ≡ true → among k n ≡ true → among l n ≡ true) → among l n ≡ true
    go b f false g ih = absurd (false≢true (rw g at h))
    go true f true g ih = subst (λ (i : ℕ). among l i ≡ true) (sym (eqb-true n x f)) g
    go false f true g ih = ih (rw g at h) (rw f at e)

-- the number of what is due is among these
abbrev pub CheckAmong : List ℕ → Result Unit Refusal → Type 0
CheckAmong l d = among l (check_number d) ≡ true

pub refuse_among : (l : List ℕ) (b : Bool) (r : Refusal) (d : Result Unit Refusal) → among l (number_of r) ≡ true → CheckAmong l d
    → CheckAmong l (refuse_if b r d)
refuse_among l b r d e f = refuse_by (CheckAmong l) b r d e f

pub else_among : (l : List ℕ) (c d : Result Unit Refusal) → CheckAmong l c → CheckAmong l d → CheckAmong l (and_then c d)
else_among l (Ok tt) d e f = f
else_among l (Err r) d e f = e
