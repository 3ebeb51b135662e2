-- Two lists compared element by element. As a loop goes about it: elements that compare alike leave those after them (`by_on`), others decide (`by_halt`), and
-- after the last all have compared alike (`by_out`). Where the elements' comparison is equality, so is the lists', by induction (`by_exactly`).
use mathlib.Core.Path.{◌≡◌, refl}
use mathlib.Core.Logic.Iff
use mathlib.Core.Logic.{◌↔◌}
use mathlib.Core.Bool.{Bool, true, false, ◌&&◌}
use mathlib.Core.List.{List, [], ◌∷◌}
use Prim.Native.Nat.{ℕ, ◌+◌, ◌≤◌, ◌<◌}
use native.Mathlib.Omega.{arith}
use native.Mathlib.Numerals.{add-one}
use lib.ListN.{length, get_or, drop, drop_of_length-le}
use lib.Seq.{drop-cons}
use Rattle.forms.proofs.Bools.{both_left, both_right}
use Rattle.forms.proofs.Sound.{never}
use Rattle.table_equality.specs.SameTables.{same_by}

-- two tests that each say something say both
pub both_exactly : (p q : Bool) {P Q : Type 0} → (p ≡ true) ↔ P → (q ≡ true) ↔ Q → ((p && q) ≡ true) ↔ (P × Q)
both_exactly p q h k = (λ e. (h.0 (both_left p q e), k.0 (both_right p q e)), λ e. rw (h.1 e.0, k.1 e.1))

module _ {A : Type 0} (f : A → A → Bool) where
  module _ (s w : List A) (i : ℕ) (e : length s ≡ length w) (d : A) (h : i < length s) where
    pub by_on : f (get_or s i d) (get_or w i d) ≡ true → same_by f (drop i s) (drop i w) ≡ same_by f (drop (i + 1) s) (drop (i + 1) w)
    unfolding same_by
    by_on t = rw (add-one i, drop-cons s i d h, drop-cons w i d (omega (arith, e, h)), t)

    pub by_halt : f (get_or s i d) (get_or w i d) ≡ false → same_by f (drop i s) (drop i w) ≡ false
    unfolding same_by
    by_halt t = rw (drop-cons s i d h, drop-cons w i d (omega (arith, e, h)), t)

  pub by_out : (s w : List A) (i : ℕ) → length s ≡ length w → length s ≤ i → same_by f (drop i s) (drop i w) ≡ true
  unfolding same_by
  by_out s w i e h = rw (drop_of_length-le s h, drop_of_length-le w {i = i} (omega (arith, e, h)))

  pub by_exactly : ((x y : A) → (f x y ≡ true) ↔ (x ≡ y)) → (s w : List A) → (same_by f s w ≡ true) ↔ (s ≡ w)
  unfolding same_by
  by_exactly exact [] [] = (λ e. refl, λ e. refl)
  by_exactly exact [] (y ∷ w) = (λ e. never (cc), λ e. never (cc))
  by_exactly exact (x ∷ s) [] = (λ e. never (cc), λ e. never (cc))
  by_exactly exact (x ∷ s) (y ∷ w) =
      Iff.trans (both_exactly (f x y) (same_by f s w) (exact x y) (by_exactly exact s w)) (λ e. cc (e.0, e.1), λ e. (cc, cc))
