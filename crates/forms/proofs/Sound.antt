-- What the scanner answers with is of the form, and the broken bounds that it finds are those in the text, in their order. Assumes nothing.
use Rattle.std.specs.Prelude.{if◌then◌else◌}
use mathlib.Core.Path.{◌≡◌, refl, sym, ap, ap₂, subst, ◌∙◌}
use mathlib.Core.Bool.{Bool, true, false}
use mathlib.Core.List.{List, [], ◌∷◌, ◌++◌, append_assoc}
use mathlib.Core.Logic.{◌⊎◌, inl, inr}
use Prim.Native.Nat.{ℕ, zero, suc, ◌+◌}
use native.Mathlib.Omega.{arith}
use lib.ListN.{length, drop}
use Rattle.forms.proofs.Bools.{by_cases}
use Rattle.forms.specs.Form.{Class, has, Form, pure, byte, pair, alt, many, fmap, bound, Row, none, more, Means}
use Rattle.forms.specs.Scan.{Scan, Got, Stop, on_got, first_set, begins, one, loop, scan, onward, overs, over}
use Rattle.forms.specs.Bounds.{Bounded, shifted, row_bounds, bounds}
use Rattle.forms.proofs.Bounds.{left_at, left_append, left_both, left_last, left_none}
use Rattle.forms.proofs.Within.{kept_means}

pub never : {A : Type 0} → ◌≡◌ {A = ℕ} 0 1 → A
never e = absurd (omega (arith, e))

pub stop_split : {A B : Type 0} (s : Scan A) (k : A → List ℕ → Scan B) (r : List ℕ) → on_got s k ≡ Stop r
    → (s ≡ Stop r) ⊎ ((a : A) × (m : List ℕ) × (s ≡ Got a m) × (k a m ≡ Stop r))
stop_split (Got a m) k r e = inr (a, m, refl, e)
stop_split (Stop m) k r e = inl (cc)

-- ---- what was read, its value, and its broken bounds

abbrev Answers : {A : Type 0} (P : List ℕ → A → Type 0) → ((x : List ℕ) (v : A) → P x v → List Bounded) → List ℕ → List (List ℕ) → Scan A → Type 0
Answers P h l o (Got v r) = (x : List ℕ) × (l ≡ x ++ r) × (m : P x v) × (o ≡ left_at l (h x v m))
Answers P h l o (Stop r) = Unit {0}

one_answers : (c : Class) (l : List ℕ) → Answers (λ x w. (x ≡ w ∷ []) × (has c w ≡ true)) (λ x v m. []) l [] (one c l)
one_answers c [] = tt
one_answers c (b ∷ l) = by_cases (has c b) (λ t. rw t (b ∷ [], refl, (refl, t), refl)) (λ t. rw t tt)

-- one text after the other
pub after : (x y l m r : List ℕ) → l ≡ x ++ m → m ≡ y ++ r → l ≡ (x ++ y) ++ r
after x y l m r e g = rw (e, g) (sym (append_assoc x y r))

-- how answers go together
module _ {A : Type 0} (P : List ℕ → A → Type 0) (h : (x : List ℕ) (v : A) → P x v → List Bounded) where
  -- the one, and from the end of it the other
  in_turn : {B C : Type 0} (Q : List ℕ → B → Type 0) (i : (x : List ℕ) (v : B) → Q x v → List Bounded) (R : List ℕ → C → Type 0)
      (j : (x : List ℕ) (v : C) → R x v → List Bounded) (q : A → B → C)
      → ((x y : List ℕ) (a : A) (b : B) (m : P x a) (n : Q y b) → (k : R (x ++ y) (q a b)) × (j (x ++ y) (q a b) k ≡ h x a m ++ shifted (length x) (i y b n)))
      → (s : List ℕ → Scan B) (o : List ℕ → List (List ℕ)) → ((m : List ℕ) → Answers Q i m (o m) (s m))
      → (l : List ℕ) (ol : List (List ℕ)) (u : Scan A) → Answers P h l ol u
      → Answers R j l (ol ++ onward u (λ a r. o r)) (on_got u (λ a r. on_got (s r) (λ b t. Got (q a b) t)))
  in_turn {B} {C} Q i R j q both s o each l ol (Got a m) w = go (s m) (each m)
    where
      go : (u : Scan B) → Answers Q i m (o m) u → Answers R j l (ol ++ o m) (on_got u (λ b t. Got (q a b) t))
      go (Got b t) z =
          let k = both w.0 z.0 a b w.2 z.2 in (
            w.0 ++ z.0,
            after w.0 z.0 l m t w.1 z.1,
            k.0,
            ap₂ (λ x y. x ++ y) w.3 z.3 ∙ sym (left_both l w.0 m (h w.0 a w.2) (i z.0 b z.2) w.1) ∙ ap (left_at l) (sym k.1),
          )
      go (Stop t) z = tt
  in_turn Q i R j q both s o each l ol (Stop m) w = tt

  -- the same text, with a value made of its own
  made : {B : Type 0} (R : List ℕ → B → Type 0) (j : (x : List ℕ) (v : B) → R x v → List Bounded) (q : A → B)
      → ((x : List ℕ) (a : A) (m : P x a) → (k : R x (q a)) × (j x (q a) k ≡ h x a m)) → (l : List ℕ) (o : List (List ℕ)) (u : Scan A) → Answers P h l o u
      → Answers R j l o (on_got u (λ a r. Got (q a) r))
  made R j q each l o (Got a r) w = let k = each w.0 a w.2 in (w.0, w.1, k.0, w.3 ∙ ap (left_at l) (sym k.1))
  made R j q each l o (Stop r) w = tt

  -- the same text, as one of two forms
  either : (R : List ℕ → A → Type 0) (j : (x : List ℕ) (v : A) → R x v → List Bounded)
      → ((x : List ℕ) (a : A) (m : P x a) → (k : R x a) × (j x a k ≡ h x a m)) → (l : List ℕ) (o : List (List ℕ)) (u : Scan A) → Answers P h l o u
      → Answers R j l o u
  either R j each l o (Got a r) w = let k = each w.0 a w.2 in (w.0, w.1, k.0, w.3 ∙ ap (left_at l) (sym k.1))
  either R j each l o (Stop r) w = tt

  -- the same text with one bound more, after the others
  also : (R : List ℕ → A → Type 0) (j : (x : List ℕ) (v : A) → R x v → List Bounded) (p : A → Bool) (skip : A → ℕ)
      → ((x : List ℕ) (a : A) (m : P x a) → (k : R x a) × (j x a k ≡ h x a m ++ (record { before = 0; part = x; skip = skip a; kept = p a } ∷ [])))
      → (l : List ℕ) (o : List (List ℕ)) (u : Scan A) → Answers P h l o u
      → Answers R j l (o ++ onward u (λ a r. if p a then [] else drop (skip a) l ∷ [])) u
  also R j p skip each l o (Got a r) w =
      let k = each w.0 a w.2 in (
        w.0,
        w.1,
        k.0,
        ap (λ x. x ++ (if p a then [] else drop (skip a) l ∷ [])) w.3
            ∙ ap (λ x. left_at l (h w.0 a w.2) ++ x) (left_last l w.0 (skip a) (p a))
            ∙ sym (left_append l (h w.0 a w.2) (record { before = 0; part = w.0; skip = skip a; kept = p a } ∷ []))
            ∙ ap (left_at l) (sym k.1),
      )
  also R j p skip each l o (Stop r) w = tt

  -- any number of them, one after the other
  rows : (c : Class) (s : List ℕ → Scan A) (o : List ℕ → List (List ℕ)) → ((l : List ℕ) → Answers P h l (o l) (s l)) → (n : ℕ) (l : List ℕ)
      → Answers (Row P) (λ x vs m. row_bounds P h m) l (overs c s o n l) (loop c s n l)
  unfolding loop overs
  rows c s o each zero l = ([], refl, none, refl)
  rows c s o each (suc n) l =
      by_cases (begins c l)
      (λ t. rw t (in_turn (Row P) (λ x vs m. row_bounds P h m) (Row P) (λ x vs m. row_bounds P h m) (λ a vs. a ∷ vs) (λ x y a vs m k. (more m k, refl))
      (λ m. loop c s n m) (λ m. overs c s o n m) (λ m. rows c s o each n m) l (o l) (s l) (each l)))
      (λ t. rw t ([], refl, none, refl))

-- a form's texts and the bounds in them
abbrev pub Scanned : {A : Type 0} → Form A → List ℕ → List (List ℕ) → Scan A → Type 0
Scanned f l o u = Answers (λ x v. Means false f x v) (λ x v m. bounds f x v m) l o u

-- SOUND: the text read is of the form, and the scanner's broken bounds are those in it
pub scanned : {A : Type 0} (f : Form A) (l : List ℕ) → Scanned f l (over f l) (scan f l)
unfolding scan over Means bounds
scanned (pure a) l = ([], refl, (refl, refl), refl)
scanned (byte c) l = one_answers c l
scanned (pair f g) l =
    in_turn (λ x v. Means false f x v) (λ x v m. bounds f x v m) (λ x v. Means false g x v) (λ x v m. bounds g x v m) (λ x v. Means false (pair f g) x v) (λ x v m. bounds (pair f g) x v m)
    (λ a b. (a, b)) (λ x y a b m n. ((x, y, refl, m, n), refl)) (λ m. scan g m) (λ m. over g m) (λ m. scanned g m) l (over f l) (scan f l)
    (scanned f l)
scanned (alt f g) l =
    by_cases (begins (first_set f) l)
    (λ t. rw t (either (λ x v. Means false f x v) (λ x v m. bounds f x v m) (λ x v. Means false (alt f g) x v) (λ x v m. bounds (alt f g) x v m) (λ x a m. (inl m, refl)) l (over f l) (scan f l) (scanned f l)))
    (λ t. rw t (either (λ x v. Means false g x v) (λ x v m. bounds g x v m) (λ x v. Means false (alt f g) x v) (λ x v m. bounds (alt f g) x v m) (λ x a m. (inr m, refl)) l (over g l) (scan g l) (scanned g l)))
scanned (many f) l = rows _ _ (first_set f) (λ m. scan f m) (λ m. over f m) (λ m. scanned f m) (length l) l
scanned (fmap h f) l = made (λ x v. Means false f x v) (λ x v m. bounds f x v m) (λ x v. Means false (fmap h f) x v) (λ x v m. bounds (fmap h f) x v m) h (λ x a m. ((a, refl, m), refl)) l (over f l) (scan f l) (scanned f l)
scanned (bound p j f) l = also (λ x v. Means false f x v) (λ x v m. bounds f x v m) (λ x v. Means false (bound p j f) x v) (λ x v m. bounds (bound p j f) x v m) p j (λ x a m. ((m, λ e. never (cc)), refl)) l (over f l) (scan f l) (scanned f l)

-- ---- what is read whole

-- what was read, and its value
abbrev pub Read : {A : Type 0} → (List ℕ → A → Type 0) → List ℕ → A → List ℕ → Type 0
Read P l v r = (x : List ℕ) × (l ≡ x ++ r) × P x v

-- without the bounds
pub sound_loose : {A : Type 0} (f : Form A) (l : List ℕ) (v : A) (r : List ℕ) → scan f l ≡ Got v r → Read (λ x w. Means false f x w) l v r
sound_loose f l v r e =
    let i = subst (Scanned f l (over f l)) e (scanned f l) in
    (i.0, i.1, i.2)

-- with the bounds or without
pub sound : {A : Type 0} (k : Bool) (f : Form A) (l : List ℕ) (v : A) (r : List ℕ) → scan f l ≡ Got v r → (k ≡ true → over f l ≡ [])
    → Read (λ x w. Means k f x w) l v r
sound false f l v r e u = sound_loose f l v r e
sound true f l v r e u =
    let i = subst (Scanned f l (over f l)) e (scanned f l) in
    (i.0, i.1, kept_means f i.0 v i.2 (left_none l (bounds f i.0 v i.2) (sym i.3 ∙ u refl)))
