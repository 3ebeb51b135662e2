-- A text is of a form within its bounds exactly if it is of the form and all the bounds in it are kept (`within_bounds`). Assumes nothing.
use mathlib.Core.Path.{◌≡◌, refl, sym, ◌∙◌}
use mathlib.Core.Bool.{true, false, ◌&&◌, false≢true}
use mathlib.Core.List.{List, [], ◌∷◌}
use mathlib.Core.Logic.{inl, inr, ◌↔◌}
use Prim.Native.Nat.{ℕ}
use lib.ListN.{length}
use Rattle.forms.specs.Form.{Form, pure, byte, pair, alt, many, fmap, bound, Row, none, more, Means}
use Rattle.forms.specs.Bounds.{Bounded, row_bounds, bounds, all_kept}
use Rattle.forms.proofs.Bools.{both_left, both_right}
use Rattle.forms.proofs.Bounds.{kept_append, kept_both, kept_last}

module _ {A : Type 0} (P Q : List ℕ → A → Type 0) (h : (x : List ℕ) (v : A) → P x v → List Bounded) where
  row_kept : ((x : List ℕ) (v : A) (m : P x v) → all_kept (h x v m) ≡ true → Q x v) → {x : List ℕ} {vs : List A} (m : Row P x vs)
      → all_kept (row_bounds P h m) ≡ true → Row Q x vs
  row_kept k none e = none
  row_kept k (more {x} {y} {v} {vs} p q) e =
      let w : (all_kept (h x v p) && all_kept (row_bounds P h q)) ≡ true = sym (kept_both (length x) (h x v p) (row_bounds P h q)) ∙ e in
      more (k x v p (both_left (all_kept (h x v p)) (all_kept (row_bounds P h q)) w)) (row_kept k q (both_right (all_kept (h x v p)) (all_kept (row_bounds P h q)) w))

  kept_row : ((x : List ℕ) (v : A) → Q x v → (m : P x v) × (all_kept (h x v m) ≡ true)) → {x : List ℕ} {vs : List A} → Row Q x vs
      → (m : Row P x vs) × (all_kept (row_bounds P h m) ≡ true)
  kept_row k none = (none, refl)
  kept_row k (more {x} {y} {v} {vs} p q) =
      let i = k x v p in
      let j = kept_row k q in
      (more i.0 j.0, kept_both (length x) (h x v i.0) (row_bounds P h j.0) ∙ rw (i.1, j.1))

pub kept_means : {A : Type 0} (f : Form A) (x : List ℕ) (v : A) (m : Means false f x v) → all_kept (bounds f x v m) ≡ true → Means true f x v
unfolding Means bounds
kept_means (pure a) x v m e = m
kept_means (byte c) x v m e = m
kept_means (pair f g) x v m e =
    let bs = bounds f m.0 v.0 m.3 in
    let cs = bounds g m.1 v.1 m.4 in
    let w : (all_kept bs && all_kept cs) ≡ true = sym (kept_both (length m.0) bs cs) ∙ e in
    let a = kept_means f m.0 v.0 m.3 (both_left (all_kept bs) (all_kept cs) w) in
    let b = kept_means g m.1 v.1 m.4 (both_right (all_kept bs) (all_kept cs) w) in
    (m.0, m.1, m.2, a, b)
kept_means (alt f g) x v (inl m) e = inl (kept_means f x v m e)
kept_means (alt f g) x v (inr m) e = inr (kept_means g x v m e)
kept_means (many f) x v m e =
    row_kept (λ y w. Means false f y w) (λ y w. Means true f y w) (λ y w n. bounds f y w n) (λ y w n d. kept_means f y w n d) m e
kept_means (fmap h f) x v m e = (m.0, m.1, kept_means f x m.0 m.2 e)
kept_means (bound p j f) x v m e =
    let bs = bounds f x v m.0 in
    let w : (all_kept bs && (p v && true)) ≡ true = sym (kept_append bs (record { before = 0; part = x; skip = j v; kept = p v } ∷ [])) ∙ e in
    (kept_means f x v m.0 (both_left (all_kept bs) (p v && true) w), λ q. sym (kept_last (p v)) ∙ both_right (all_kept bs) (p v && true) w)

means_kept : {A : Type 0} (f : Form A) (x : List ℕ) (v : A) → Means true f x v → (m : Means false f x v) × (all_kept (bounds f x v m) ≡ true)
unfolding Means bounds
means_kept (pure a) x v m = (m, refl)
means_kept (byte c) x v m = (m, refl)
means_kept (pair f g) x v m =
    let i = means_kept f m.0 v.0 m.3 in
    let j = means_kept g m.1 v.1 m.4 in (
      (m.0, m.1, m.2, i.0, j.0),
      kept_both (length m.0) (bounds f m.0 v.0 i.0) (bounds g m.1 v.1 j.0) ∙ rw (i.1, j.1),
    )
means_kept (alt f g) x v (inl m) = let i = means_kept f x v m in (inl i.0, i.1)
means_kept (alt f g) x v (inr m) = let i = means_kept g x v m in (inr i.0, i.1)
means_kept (many f) x v m =
    kept_row (λ y w. Means false f y w) (λ y w. Means true f y w) (λ y w n. bounds f y w n) (λ y w n. means_kept f y w n) m
means_kept (fmap h f) x v m = let i = means_kept f x m.0 m.2 in ((m.0, m.1, i.0), i.1)
means_kept (bound p j f) x v m =
    let i = means_kept f x v m.0 in (
      (i.0, λ e. absurd (false≢true e)),
      kept_append (bounds f x v i.0) (record { before = 0; part = x; skip = j v; kept = p v } ∷ []) ∙ rw (i.1, m.1 refl),
    )

-- WITHIN THE BOUNDS
pub within_bounds : {A : Type 0} (f : Form A) (x : List ℕ) (v : A) → Means true f x v ↔ ((m : Means false f x v) × (all_kept (bounds f x v m) ≡ true))
within_bounds f x v = (λ m. means_kept f x v m, λ m. kept_means f x v m.0 m.1)
