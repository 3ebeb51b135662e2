-- What each bound in a form is on, told of each bounded part of its texts (`each_part`). Assumes nothing.
use mathlib.Core.Path.{◌≡◌, refl, sym, ap, ◌∙◌}
use mathlib.Core.Bool.{Bool, true, false}
use mathlib.Core.List.{List, [], ◌∷◌, ◌++◌, append_assoc, append-nil}
use mathlib.Core.Logic.{inl, inr}
use Prim.Native.Nat.{ℕ, ◌+◌}
use lib.ListN.{length, length-append}
use Rattle.forms.specs.Form.{Form, pure, byte, pair, alt, many, fmap, bound, Row, none, more, Means}
use Rattle.forms.specs.Bounds.{Bounded, shifted, row_bounds, bounds}
use Rattle.forms.proofs.Bools.{both_left, both_right}
use Rattle.forms.proofs.Sound.{never}
use Rattle.forms.proofs.Pieces.{free}

-- the parts that a form's bounds are on have Q, which tells of the part's bytes, how many of these stand before the place, and whether the bound is kept
pub data Each (Q : List ℕ → ℕ → Bool → Type 0) : (A : Type 0) → Form A → Type 1 where
  unbounded : {A : Type 0} {f : Form A} → free f ≡ true → Each Q A f
  both : {A B : Type 0} {f : Form A} {g : Form B} → Each Q A f → Each Q B g → Each Q (A × B) (pair f g)
  either : {A : Type 0} {f g : Form A} → Each Q A f → Each Q A g → Each Q A (alt f g)
  row : {A : Type 0} {f : Form A} → Each Q A f → Each Q (List A) (many f)
  made : {A B : Type 0} {h : A → B} {f : Form A} → Each Q A f → Each Q B (fmap h f)
  on : {A : Type 0} {p : A → Bool} {j : A → ℕ} {f : Form A} → ((x : List ℕ) (v : A) → Means false f x v → Q x (j v) (p v)) → Each Q A f
      → Each Q A (bound p j f)

-- the part stands in x after so many bytes
abbrev pub PartOf : List ℕ → Bounded → Type 0
PartOf x b = (u : List ℕ) × (r : List ℕ) × (x ≡ u ++ (b.part ++ r)) × (length u ≡ b.before)

abbrev pub AllOf : (Bounded → Type 0) → List Bounded → Type 0
AllOf P [] = Unit {0}
AllOf P (b ∷ bs) = P b × AllOf P bs

pub all_append : (P : Bounded → Type 0) (bs cs : List Bounded) → AllOf P bs → AllOf P cs → AllOf P (bs ++ cs)
all_append P [] cs h g = g
all_append P (b ∷ bs) cs h g = (h.0, all_append P bs cs h.1 g)

-- of parts each of which is one of those that P tells of
pub all_one : (P : Bounded → Type 0) (bs : List Bounded) (b : Bounded) (cs : List Bounded) → AllOf P (bs ++ (b ∷ cs)) → P b
all_one P [] b cs h = h.0
all_one P (a ∷ bs) b cs h = all_one P bs b cs h.1

module _ (Q : List ℕ → ℕ → Bool → Type 0) where
  -- what is told of a part of x
  abbrev pub Told : List ℕ → Bounded → Type 0
  Told x b = Q b.part b.skip b.kept × PartOf x b

  -- with more after x, and with more before it
  told_before : (x z : List ℕ) (bs : List Bounded) → AllOf (Told x) bs → AllOf (Told (x ++ z)) bs
  told_before x z [] h = tt
  told_before x z (b ∷ bs) h =
      let i = h.0.1 in
      let e : x ++ z ≡ i.0 ++ (b.part ++ (i.1 ++ z)) =
      ap (λ k. k ++ z) i.2 ∙ append_assoc i.0 (b.part ++ i.1) z ∙ ap (λ k. i.0 ++ k) (append_assoc b.part i.1 z) in
      ((h.0.0, (i.0, i.1 ++ z, e, i.3)), told_before x z bs h.1)

  told_after : (y x : List ℕ) (bs : List Bounded) → AllOf (Told x) bs → AllOf (Told (y ++ x)) (shifted (length y) bs)
  told_after y x [] h = tt
  told_after y x (b ∷ bs) h =
      let i = h.0.1 in
      let e : y ++ x ≡ (y ++ i.0) ++ (b.part ++ i.1) = ap (λ k. y ++ k) i.2 ∙ sym (append_assoc y i.0 (b.part ++ i.1)) in
      ((h.0.0, (y ++ i.0, i.1, e, length-append y i.0 ∙ ap (λ k. length y + k) i.3)), told_after y x bs h.1)

  told_both : (y z : List ℕ) (bs cs : List Bounded) → AllOf (Told y) bs → AllOf (Told z) cs → AllOf (Told (y ++ z)) (bs ++ shifted (length y) cs)
  told_both y z bs cs h g = all_append (Told (y ++ z)) bs (shifted (length y) cs) (told_before y z bs h) (told_after y z cs g)

  told_row : {A : Type 0} (P : List ℕ → A → Type 0) (h : (x : List ℕ) (v : A) → P x v → List Bounded)
      → ((x : List ℕ) (v : A) (m : P x v) → AllOf (Told x) (h x v m)) → {x : List ℕ} {vs : List A} (m : Row P x vs) → AllOf (Told x) (row_bounds P h m)
  told_row P h k none = tt
  told_row P h k (more {x} {y} {v} {vs} p q) = told_both x y (h x v p) (row_bounds P h q) (k x v p) (told_row P h k q)

  -- a form without bounds has no bounded part
  told_free : {A : Type 0} (f : Form A) → free f ≡ true → (x : List ℕ) (v : A) (m : Means false f x v) → AllOf (Told x) (bounds f x v m)
  unfolding Means bounds
  told_free (pure a) w x v m = tt
  told_free (byte c) w x v m = tt
  told_free (pair f g) w x v m = rw m.2
      (told_both m.0 m.1 (bounds f m.0 v.0 m.3) (bounds g m.1 v.1 m.4)
      (told_free f (both_left (free f) (free g) w) m.0 v.0 m.3) (told_free g (both_right (free f) (free g) w) m.1 v.1 m.4))
  told_free (alt f g) w x v (inl m) = told_free f (both_left (free f) (free g) w) x v m
  told_free (alt f g) w x v (inr m) = told_free g (both_right (free f) (free g) w) x v m
  told_free (many f) w x v m = told_row (λ y u. Means false f y u) (λ y u n. bounds f y u n) (λ y u n. told_free f w y u n) m
  told_free (fmap h f) w x v m = told_free f w x m.0 m.2
  told_free (bound p j f) w x v m = never (cc)

  -- EACH BOUNDED PART has Q, and stands in the text where it is said to
  pub each_part : {A : Type 0} {f : Form A} → Each Q A f → (x : List ℕ) (v : A) (m : Means false f x v) → AllOf (Told x) (bounds f x v m)
  unfolding Means bounds
  each_part (unbounded {A} {f} w) x v m = told_free f w x v m
  each_part (both {A} {B} {f} {g} h k) x v m = rw m.2
      (told_both m.0 m.1 (bounds f m.0 v.0 m.3) (bounds g m.1 v.1 m.4)
      (each_part h m.0 v.0 m.3) (each_part k m.1 v.1 m.4))
  each_part (either h k) x v (inl m) = each_part h x v m
  each_part (either h k) x v (inr m) = each_part k x v m
  each_part (row {A} {f} h) x v m = told_row (λ y u. Means false f y u) (λ y u n. bounds f y u n) (λ y u n. each_part h y u n) m
  each_part (made h) x v m = each_part h x m.0 m.2
  each_part (on {A} {p} {j} {f} q h) x v m =
      all_append (Told x) (bounds f x v m.0) (record { before = 0; part = x; skip = j v; kept = p v } ∷ [])
      (each_part h x v m.0) ((q x v m.0, ([], [], sym (append-nil x), refl)), tt)
