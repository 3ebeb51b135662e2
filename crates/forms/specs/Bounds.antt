-- THE BOUNDS in a text of a form, from left to right, by how the text is made of it. No scanning.
use Rattle.std.specs.Prelude.{ℕ, ◌+◌, Bool, true, false, ◌&&◌, List, [], ◌∷◌, ◌++◌, map, length}
use Rattle.std.proofs.Common.{inl, inr}
use Rattle.forms.specs.Form.{Form, pure, byte, pair, alt, many, fmap, bound, Row, none, more, Means}

-- a part of a text with a bound on its value: how many bytes of the text stand before it, its bytes, how many of these stand before the place of
-- a broken bound, and whether the bound is kept
pub record Bounded : Type 0 where
  pub before : ℕ
  pub part : List ℕ
  pub skip : ℕ
  pub kept : Bool

-- the same parts with so many bytes more before them
abbrev pub shifted : ℕ → List Bounded → List Bounded
shifted n bs = map (λ (b : Bounded). record { before = n + b.before; part = b.part; skip = b.skip; kept = b.kept }) bs

-- of texts one after the other
abbrev pub row_bounds : {A : Type 0} (P : List ℕ → A → Type 0) → ((x : List ℕ) (v : A) → P x v → List Bounded) → {x : List ℕ} {vs : List A} → Row P x vs
    → List Bounded
row_bounds P h none = []
row_bounds P h (more {x} {y} {v} {vs} p q) = h x v p ++ shifted (length x) (row_bounds P h q)

-- of a text of the form; a bound stands after those on parts of its own part
unfoldable pub bounds : {A : Type 0} (f : Form A) (x : List ℕ) (v : A) → Means false f x v → List Bounded
unfolding Means
bounds (pure a) x v m = []
bounds (byte c) x v m = []
bounds (pair f g) x v m = bounds f m.0 v.0 m.3 ++ shifted (length m.0) (bounds g m.1 v.1 m.4)
bounds (alt f g) x v (inl m) = bounds f x v m
bounds (alt f g) x v (inr m) = bounds g x v m
bounds (many f) x v m = row_bounds (λ y w. Means false f y w) (λ y w n. bounds f y w n) m
bounds (fmap h f) x v m = bounds f x m.0 m.2
bounds (bound p j f) x v m = bounds f x v m.0 ++ (record { before = 0; part = x; skip = j v; kept = p v } ∷ [])

-- none is broken
abbrev pub all_kept : List Bounded → Bool
all_kept [] = true
all_kept (b ∷ bs) = b.kept && all_kept bs
