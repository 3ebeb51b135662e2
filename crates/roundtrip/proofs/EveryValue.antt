-- What holds for every text and value of a form: `Every f P` asks it of each way in which the form can be met, by recursion on the form, so that a
-- fact about a form is a function of the form's bytes and bounds. It is the same as P for all texts and values that the form means.
use mathlib.Core.Path.{◌≡◌, refl, sym, subst, subst₂}
use mathlib.Core.Bool.{true}
use mathlib.Core.List.{List, [], ◌∷◌, ◌++◌}
use mathlib.Core.Logic.{inl, inr}
use Prim.Native.Nat.{ℕ}
use Rattle.forms.specs.Form.{has, Form, pure, byte, pair, alt, many, fmap, bound, Row, Means}

abbrev pub Every : {A : Type 0} → Form A → (List ℕ → A → Type 0) → Type 0
Every (pure a) P = P [] a
Every (byte c) P = (b : ℕ) → has c b ≡ true → P (b ∷ []) b
Every (pair f g) P = Every f (λ x a. Every g (λ y b. P (x ++ y) (a, b)))
Every (alt f g) P = Every f P × Every g P
Every (many {A} f) P = (x : List ℕ) (vs : List A) → Row (λ y w. Means true f y w) x vs → P x vs
Every (fmap h f) P = Every f (λ x a. P x (h a))
Every (bound p j f) P = Every f (λ x a. p a ≡ true → P x a)

pub every : {A : Type 0} (f : Form A) (P : List ℕ → A → Type 0) → Every f P → (x : List ℕ) (v : A) → Means true f x v → P x v
unfolding Means
every (pure a) P h x v m = subst₂ P (sym m.0) (sym m.1) h
every (byte c) P h x v m = subst (λ z. P z v) (sym m.0) (h v m.1)
every (pair f g) P h x v m =
    subst (λ z. P z v) (sym m.2)
    (every g (λ y b. P (m.0 ++ y) (v.0, b)) (every f (λ y a. Every g (λ z b. P (y ++ z) (a, b))) h m.0 v.0 m.3) m.1 v.1 m.4)
every (alt f g) P h x v (inl m) = every f P h.0 x v m
every (alt f g) P h x v (inr m) = every g P h.1 x v m
every (many f) P h x v m = h x v m
every (fmap k f) P h x v m = subst (P x) (sym m.1) (every f (λ y a. P y (k a)) h x m.0 m.2)
every (bound p j f) P h x v m = every f (λ y a. p a ≡ true → P y a) h x v m.0 (m.1 refl)

pub known : {A : Type 0} (f : Form A) (P : List ℕ → A → Type 0) → ((x : List ℕ) (v : A) → Means true f x v → P x v) → Every f P
unfolding Means
known (pure a) P k = k [] a (refl, refl)
known (byte c) P k = λ b h. k (b ∷ []) b (refl, h)
known (pair f g) P k =
    known f (λ x a. Every g (λ y b. P (x ++ y) (a, b))) (λ x a m. known g (λ y b. P (x ++ y) (a, b)) (λ y b n. k (x ++ y) (a, b) (x, y, refl, m, n)))
known (alt f g) P k = (known f P (λ x v m. k x v (inl m)), known g P (λ x v m. k x v (inr m)))
known (many f) P k = k
known (fmap h f) P k = known f (λ x a. P x (h a)) (λ x a m. k x (h a) (a, refl, m))
known (bound p j f) P k = known f (λ x a. p a ≡ true → P x a) (λ x a m t. k x a (m, λ q. t))
