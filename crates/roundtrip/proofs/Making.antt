-- Texts of forms, put together as the forms are: a law for each way of making a form, the text and the value of the whole from those of its parts.
use Rattle.std.specs.Prelude.{if◌then◌else◌}
use mathlib.Core.Path.{◌≡◌, refl, subst}
use mathlib.Core.Bool.{Bool, true}
use mathlib.Core.List.{List, [], ◌∷◌, ◌++◌}
use mathlib.Core.Logic.{inl, inr}
use Prim.Native.Nat.{ℕ, ◌-◌, ◌≤◌}
use native.Mathlib.Omega.{arith}
use native.Mathlib.Nat.{le_refl}
use lib.ListN.{length}
use borrow.Author.Tests.{le-leb}
use Rattle.forms.specs.Bytes.{between}
use Rattle.forms.specs.Form.{Class, has, Form, pure, byte, pair, alt, many, fmap, bound, Row, none, Means}
use Rattle.forms.specs.Pieces.{preceded, terminated, some, literal, literal_as, keyword}
use Rattle.forms.proofs.Bools.{by_cases}
use Rattle.definitions.specs.Lists.{all?}
use Rattle.definitions.specs.OptionValues.{OptionValue}
use Rattle.definitions.specs.Forms.{closed, valued}
use Rattle.roundtrip.proofs.AllTests.{both, all_head, all_tail}

-- the text x is of the form, within its bounds, with the value v
pub record Of {A : Type 0} (f : Form A) (x : List ℕ) (v : A) : Type 0 where
  pub means : Means true f x v

-- ---- the seven ways

pub pure_of : {A : Type 0} {a : A} → Of (pure a) [] a
unfolding Means
pure_of = record { means = (refl, refl) }

pub is_byte_lem : {c : Class} {b : ℕ} → has c b ≡ true → Of (byte c) (b ∷ []) b
unfolding Means
is_byte_lem h = record { means = (refl, h) }

module _ {A B : Type 0} {f : Form A} {g : Form B} {x y : List ℕ} {a : A} {b : B} (p : Of f x a) (q : Of g y b) where
  pub both_of : Of (pair f g) (x ++ y) (a, b)
  unfolding Means
  both_of = record { means = (x, y, refl, p.means, q.means) }

  pub preceded_of : Of (preceded f g) (x ++ y) b
  unfolding Means
  preceded_of = record { means = ((a, b), refl, (x, y, refl, p.means, q.means)) }

  pub terminated_of : Of (terminated f g) (x ++ y) a
  unfolding Means
  terminated_of = record { means = ((a, b), refl, (x, y, refl, p.means, q.means)) }

module _ {A : Type 0} {f g : Form A} {x : List ℕ} {a : A} where
  pub alt_left : Of f x a → Of (alt f g) x a
  unfolding Means
  alt_left m = record { means = inl m.means }

  pub alt_right : Of g x a → Of (alt f g) x a
  unfolding Means
  alt_right m = record { means = inr m.means }

pub fmap_of : {A B : Type 0} {h : A → B} {f : Form A} {x : List ℕ} {a : A} → Of f x a → Of (fmap h f) x (h a)
unfolding Means
fmap_of {a} m = record { means = (a, refl, m.means) }

pub bound_of : {A : Type 0} {p : A → Bool} {j : A → ℕ} {f : Form A} {x : List ℕ} {a : A} → p a ≡ true → Of f x a → Of (bound p j f) x a
unfolding Means
bound_of t m = record { means = (m.means, λ k. t) }

pub many_of : {A : Type 0} {f : Form A} {x : List ℕ} {vs : List A} → Row (λ y w. Of f y w) x vs → Of (many f) x vs
unfolding Means
many_of {f} r = record { means = go r }
  where
    go : {x : List ℕ} {vs : List _} → Row (λ y w. Of f y w) x vs → Row (λ y w. Means true f y w) x vs
    go none = none
    go (Row.more m r) = Row.more m.means (go r)

pub somes : {A : Type 0} {f : Form A} {x y : List ℕ} {v : A} {vs : List A} → Of f x v → Row (λ y w. Of f y w) y vs → Of (some f) (x ++ y) (v ∷ vs)
somes m r = fmap_of (both_of m (many_of r))

-- the text or the value, written in another way
pub retexts : {A : Type 0} {f : Form A} {v : A} {x y : List ℕ} → x ≡ y → Of f x v → Of f y v
retexts {f} {v} e m = subst (λ z. Of f z v) e m

pub revalues : {A : Type 0} {f : Form A} {v w : A} {x : List ℕ} → v ≡ w → Of f x v → Of f x w
revalues {f} {x} e m = subst (λ z. Of f x z) e m

-- ---- bytes

own_span : (b : ℕ) → between b b b ≡ true
own_span b = both (le-leb b b (le_refl b)) (le-leb b b (le_refl b))

pub literal_of : (b : ℕ) → Of (literal b) (b ∷ []) b
unfolding has
literal_of b = is_byte_lem (rw (own_span b))

pub literal_as-of : {A : Type 0} (b : ℕ) (a : A) → Of (literal_as b a) (b ∷ []) a
literal_as-of b a = fmap_of {h = λ (x : ℕ). a} (literal_of b)

own_case : (b : ℕ) → has (if between 97 122 b then (b, b) ∷ (b - 32, b - 32) ∷ [] else (b, b) ∷ []) b ≡ true
unfolding has
own_case b = by_cases (between 97 122 b) (λ t. rw (t, own_span b)) (λ t. rw (t, own_span b))

-- a word in small letters
pub words : {A : Type 0} (w : List ℕ) (a : A) → Of (keyword w a) w a
words [] a = pure_of
words (b ∷ w) a = preceded_of (is_byte_lem (own_case b)) (words w a)

-- bytes of a class
pub byte_row : (c : Class) (l : List ℕ) → all? (has c) l ≡ true → Row (λ y w. Of (byte c) y w) l l
byte_row c [] t = none
byte_row c (b ∷ l) t = Row.more (is_byte_lem (all_head (has c) b l t)) (byte_row c l (all_tail (has c) b l t))

pub some_bytes : (c : Class) (l : List ℕ) → 1 ≤ length l → all? (has c) l ≡ true → Of (some (byte c)) l l
some_bytes c [] h t = absurd (omega (arith, h))
some_bytes c (b ∷ l) h t = somes (is_byte_lem (all_head (has c) b l t)) (byte_row c l (all_tail (has c) b l t))

-- ---- an option's value, `;` after it; one space before it

pub closes : {f : Form OptionValue} {x : List ℕ} {e : OptionValue} → Of f x e → Of (closed f) (x ++ (59 ∷ [])) e
closes m = terminated_of m (preceded_of (many_of none) (literal_of 59))

pub values : {f : Form OptionValue} {x : List ℕ} {e : OptionValue} → Of f x e → Of (valued f) (32 ∷ (x ++ (59 ∷ []))) e
values m = preceded_of (somes (literal_of 32) none) (closes m)
