-- Tests over lists: a test that holds throughout holds for parts, for lists put together, and for what is read byte by byte of a class. By induction on
-- the list.
use mathlib.Core.Path.{◌≡◌, refl, sym, subst}
use mathlib.Core.Bool.{Bool, true, ◌&&◌}
use mathlib.Core.List.Memᴰ.{head as first_one}
use mathlib.Core.List.Memᴰ.{tail as later-one}
use mathlib.Core.List.{List, [], ◌∷◌, ◌++◌, Memᴰ as Mem}
use Prim.Native.Nat.{ℕ, zero, suc}
use lib.ListN.{take, drop, replicate}
use Rattle.forms.specs.Form.{Class, has, byte, Row, none, Means}
use Rattle.forms.proofs.Bools.{both_left, both_right}
use Rattle.definitions.specs.Lists.{all?}

pub both : {a b : Bool} → a ≡ true → b ≡ true → (a && b) ≡ true
both p q = rw (p, q)

pub halves : {a b : Bool} → (a && b) ≡ true → (a ≡ true) × (b ≡ true)
halves {a} {b} e = (both_left a b e, both_right a b e)

module _ {A : Type 0} (f : A → Bool) where
  pub all_none : all? f [] ≡ true
  unfolding all?
  all_none = refl

  pub all_more : (x : A) (xs : List A) → f x ≡ true → all? f xs ≡ true → all? f (x ∷ xs) ≡ true
  unfolding all?
  all_more x xs p q = both p q

  pub all_head : (x : A) (xs : List A) → all? f (x ∷ xs) ≡ true → f x ≡ true
  unfolding all?
  all_head x xs t = both_left (f x) (all? f xs) t

  pub all_tail : (x : A) (xs : List A) → all? f (x ∷ xs) ≡ true → all? f xs ≡ true
  unfolding all?
  all_tail x xs t = both_right (f x) (all? f xs) t

  pub all_append : (xs ys : List A) → all? f xs ≡ true → all? f ys ≡ true → all? f (xs ++ ys) ≡ true
  all_append [] ys p q = q
  all_append (x ∷ xs) ys p q = all_more x (xs ++ ys) (all_head x xs p) (all_append xs ys (all_tail x xs p) q)

  pub all_after : (xs ys : List A) → all? f (xs ++ ys) ≡ true → all? f ys ≡ true
  all_after [] ys t = t
  all_after (x ∷ xs) ys t = all_after xs ys (all_tail x (xs ++ ys) t)

  pub all_replicate : (n : ℕ) (x : A) → f x ≡ true → all? f (replicate n x) ≡ true
  all_replicate zero x p = all_none
  all_replicate (suc n) x p = all_more x (replicate n x) p (all_replicate n x p)

  -- what passes one test passes another that it implies
  pub all_so : (g : A → Bool) → ((x : A) → f x ≡ true → g x ≡ true) → (xs : List A) → all? f xs ≡ true → all? g xs ≡ true
  unfolding all?
  all_so g h [] t = refl
  all_so g h (x ∷ xs) t = both (h x (all_head x xs t)) (all_so g h xs (all_tail x xs t))

  pub all_each : {x : A} {xs : List A} → Mem x xs → all? f xs ≡ true → f x ≡ true
  all_each (first_one {x} {xs} e) t = subst (λ z. f z ≡ true) (sym e) (all_head x xs t)
  all_each (later-one {x} {xs} m) t = all_each m (all_tail x xs t)

  pub all_of : (xs : List A) → ((x : A) → Mem x xs → f x ≡ true) → all? f xs ≡ true
  all_of [] h = all_none
  all_of (x ∷ xs) h = all_more x xs (h x (first_one refl)) (all_of xs (λ y m. h y (later-one m)))

  pub all_take : (n : ℕ) (xs : List A) → all? f xs ≡ true → all? f (take n xs) ≡ true
  all_take zero xs t = all_none
  all_take (suc n) [] t = all_none
  all_take (suc n) (x ∷ xs) t = all_more x (take n xs) (all_head x xs t) (all_take n xs (all_tail x xs t))

  pub all_drop : (n : ℕ) (xs : List A) → all? f xs ≡ true → all? f (drop n xs) ≡ true
  all_drop zero xs t = t
  all_drop (suc n) [] t = all_none
  all_drop (suc n) (x ∷ xs) t = all_drop n xs (all_tail x xs t)

  -- a list of values, each of which passes
  pub all_row : (P : List ℕ → A → Type 0) → ((x : List ℕ) (v : A) → P x v → f v ≡ true) → {x : List ℕ} {vs : List A} → Row P x vs → all? f vs ≡ true
  all_row P h none = all_none
  all_row P h (Row.more {x} {y} {v} {vs} p r) = all_more v vs (h x v p) (all_row P h r)

pub all_both : {A : Type 0} (f g : A → Bool) (xs : List A) → all? f xs ≡ true → all? g xs ≡ true → all? (λ x. f x && g x) xs ≡ true
unfolding all?
all_both f g [] t u = refl
all_both f g (x ∷ xs) t u = both (both (all_head f x xs t) (all_head g x xs u)) (all_both f g xs (all_tail f x xs t) (all_tail g x xs u))

-- bytes of a class
pub row_bytes : (c : Class) {x vs : List ℕ} → Row (λ y w. Means true (byte c) y w) x vs → all? (has c) vs ≡ true
unfolding Means
row_bytes c r = all_row (has c) (λ y w. Means true (byte c) y w) (λ y w m. m.1) r
