-- The bytes of a class lie between two bytes if its spans do; a form whose classes all lie in 0x20 to 0x7E has printable texts only. The first by
-- induction on the spans, the second by recursion on the form.
use mathlib.Core.Path.{◌≡◌}
use mathlib.Core.Bool.{Bool, true, ◌&&◌}
use mathlib.Core.List.{List, [], ◌∷◌}
use mathlib.Core.Logic.{inl, inr}
use Prim.Native.Nat.{ℕ, ◌≤◌}
use native.Mathlib.Omega.{arith}
use lib.Dec.{leb}
use borrow.Author.Tests.{le-leb, leb-true}
use Rattle.forms.specs.Form.{Class, has, Form, pure, byte, pair, alt, many, fmap, bound, Row, none, Means}
use Rattle.forms.proofs.Bools.{by_cases, both_left, both_right}
use Rattle.forms.proofs.Sound.{never}
use Rattle.definitions.specs.Lists.{all?}
use Rattle.definitions.specs.Options.{printable}
use Rattle.roundtrip.proofs.AllTests.{both, all_none, all_more, all_append}

pub record Inside (low high b : ℕ) : Type 0 where
  pub above : low ≤ b
  pub below : b ≤ high

abbrev pub spans_in : ℕ → ℕ → Class → Bool
spans_in low high [] = true
spans_in low high (r ∷ c) = (leb low r.0 && leb r.1 high) && spans_in low high c

pub class_inside : (low high : ℕ) (c : Class) → spans_in low high c ≡ true → (b : ℕ) → has c b ≡ true → Inside low high b
unfolding has
class_inside low high [] s b h = never (cc)
class_inside low high (r ∷ c) s b h =
    let s1 = both_left (leb low r.0 && leb r.1 high) (spans_in low high c) s in
    let p = leb-true low r.0 (both_left (leb low r.0) (leb r.1 high) s1) in
    let q = leb-true r.1 high (both_right (leb low r.0) (leb r.1 high) s1) in
    by_cases (leb r.0 b && leb b r.1)
    (λ t.
    let g = leb-true r.0 b (both_left (leb r.0 b) (leb b r.1) t) in
    let k = leb-true b r.1 (both_right (leb r.0 b) (leb b r.1) t) in
    record { above = omega (arith, p, g); below = omega (arith, q, k) })
    (λ t. class_inside low high c (both_right (leb low r.0 && leb r.1 high) (spans_in low high c) s) b (rw t at h))

-- ---- printable forms

abbrev pub printed_form : {A : Type 0} → Form A → Bool
printed_form (pure a) = true
printed_form (byte c) = spans_in 32 126 c
printed_form (pair f g) = printed_form f && printed_form g
printed_form (alt f g) = printed_form f && printed_form g
printed_form (many f) = printed_form f
printed_form (fmap h f) = printed_form f
printed_form (bound p j f) = printed_form f

pub inside_printed : (b : ℕ) → Inside 32 126 b → printable b ≡ true
unfolding printable
inside_printed b i = both (le-leb 32 b i.above) (le-leb b 126 i.below)

row_printed : {A : Type 0} (P : List ℕ → A → Type 0) → ((x : List ℕ) (v : A) → P x v → all? printable x ≡ true) → (x : List ℕ) (vs : List A) → Row P x vs
    → all? printable x ≡ true
row_printed P h x vs none = all_none printable
row_printed P h x vs (Row.more {x = y} {y = z} {v} {vs = ws} p r) = all_append printable y z (h y v p) (row_printed P h z ws r)

pub form_printed : {A : Type 0} (k : Bool) (f : Form A) → printed_form f ≡ true → (x : List ℕ) (v : A) → Means k f x v → all? printable x ≡ true
unfolding Means
form_printed k (pure a) t x v m = rw m.0 (all_none printable)
form_printed k (byte c) t x v m = rw m.0 (all_more printable v [] (inside_printed v (class_inside 32 126 c t v m.1)) (all_none printable))
form_printed k (pair f g) t x v m =
    rw m.2 (all_append printable m.0 m.1 (form_printed k f (both_left (printed_form f) (printed_form g) t) m.0 v.0 m.3)
    (form_printed k g (both_right (printed_form f) (printed_form g) t) m.1 v.1 m.4))
form_printed k (alt f g) t x v (inl m) = form_printed k f (both_left (printed_form f) (printed_form g) t) x v m
form_printed k (alt f g) t x v (inr m) = form_printed k g (both_right (printed_form f) (printed_form g) t) x v m
form_printed k (many f) t x v m = row_printed (λ y w. Means k f y w) (λ y w n. form_printed k f t y w n) x v m
form_printed k (fmap h f) t x v m = form_printed k f t x m.0 m.2
form_printed k (bound p j f) t x v m = form_printed k f t x v m.0
