-- Forms of texts, and THE MEANING of a form: which byte lists are of it, and with which value. No scanning.
use Rattle.std.specs.Prelude.{ℕ, ◌≡◌, Bool, true, false, ◌||◌, List, [], ◌∷◌, ◌++◌, ◌⊎◌}
use Rattle.forms.specs.Bytes.{between}

-- a set of bytes: spans, each from its first to its last byte
abbrev pub Class : Type 0
Class = List (ℕ × ℕ)

unfoldable pub has : Class → ℕ → Bool
has [] b = false
has (r ∷ c) b = between r.0 r.1 b || has c b

-- nothing, with a value; a byte of a class; one after the other; either; any number of them, one after the other;
-- a value made of a form's; a bound on a form's value, and after how many bytes of its text a broken bound is placed
pub data Form : Type 0 → Type 1 where
  pure : {A : Type 0} → A → Form A
  byte : Class → Form ℕ
  pair : {A B : Type 0} → Form A → Form B → Form (A × B)
  alt : {A : Type 0} → Form A → Form A → Form A
  many : {A : Type 0} → Form A → Form (List A)
  fmap : {A B : Type 0} → (A → B) → Form A → Form B
  bound : {A : Type 0} → (A → Bool) → (A → ℕ) → Form A → Form A

-- texts of P one after the other, any number
pub data Row {A : Type 0} (P : List ℕ → A → Type 0) : List ℕ → List A → Type 0 where
  none : Row P [] []
  more : {x y : List ℕ} {v : A} {vs : List A} → P x v → Row P y vs → Row P (x ++ y) (v ∷ vs)

-- the byte list x is of the form, with the value v; with k true the bounds count, else they are ignored
unfoldable pub Means : {A : Type 0} → Bool → Form A → List ℕ → A → Type 0
Means k (pure a) x v = (x ≡ []) × (v ≡ a)
Means k (byte c) x v = (x ≡ v ∷ []) × (has c v ≡ true)
Means k (pair f g) x v = (y : List ℕ) × (z : List ℕ) × (x ≡ y ++ z) × Means k f y v.0 × Means k g z v.1
Means k (alt f g) x v = Means k f x v ⊎ Means k g x v
Means k (many f) x v = Row (λ y w. Means k f y w) x v
Means k (fmap {A} h f) x v = (a : A) × (v ≡ h a) × Means k f x a
Means k (bound p j f) x v = Means k f x v × (k ≡ true → p v ≡ true)
