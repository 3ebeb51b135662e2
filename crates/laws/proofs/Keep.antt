-- What is kept of a list: exactly those of its elements that pass the test; all of them, or none.
use mathlib.Core.Path.{◌≡◌, refl, sym, ap, ◌∙◌}
use mathlib.Core.Logic.{◌⊎◌, inl, inr, ⊎_elim}
use mathlib.Core.Bool.{Bool, true, false, false≢true}
use mathlib.Core.List.Memᴰ.{head as here}
use mathlib.Core.List.Memᴰ.{not-nil}
use mathlib.Core.List.Memᴰ.{tail as there}
use mathlib.Core.List.{List, [], ◌∷◌, ◌++◌, Memᴰ as Mem}
use mathlib.Core.List.Memᴰ.{cases_cons}
use Rattle.definitions.specs.Lists.{keep, keep_one}

module _ {A : Type 0} where
  pub keep_in : (f : A → Bool) (x : A) (l : List A) → Mem x (keep f l) → Mem x l × (f x ≡ true)
  unfolding keep
  keep_in f x [] m = absurd (not-nil m)
  keep_in f x (y ∷ l) m = go (f y) refl m (keep_in f x l)
    where
      go : (t : Bool) → f y ≡ t → Mem x (keep_one (f y) y (keep f l)) → (Mem x (keep f l) → Mem x l × (f x ≡ true)) → Mem x (y ∷ l) × (f x ≡ true)
      go true e m ih = ⊎_elim (λ p. (here p, ap f p ∙ e)) (λ p. (there (ih p).0, (ih p).1)) (cases_cons (rw e at m))
      go false e m ih = let p = ih (rw e at m) in (there p.0, p.1)

  pub keep_of : (f : A → Bool) (x : A) (l : List A) → Mem x l → f x ≡ true → Mem x (keep f l)
  unfolding keep
  keep_of f x [] m h = absurd (not-nil m)
  keep_of f x (y ∷ l) m h = go (f y) refl (cases_cons m) (λ n. keep_of f x l n h)
    where
      go : (t : Bool) → f y ≡ t → (x ≡ y) ⊎ Mem x l → (Mem x l → Mem x (keep f l)) → Mem x (keep_one (f y) y (keep f l))
      go true e (inl p) ih = rw e (here p)
      go true e (inr n) ih = rw e (there (ih n))
      go false e (inl p) ih = absurd (false≢true (sym e ∙ ap f (sym p) ∙ h))
      go false e (inr n) ih = rw e (ih n)

  pub keep_all : (f : A → Bool) (l : List A) → ((x : A) → Mem x l → f x ≡ true) → keep f l ≡ l
  unfolding keep
  keep_all f [] h = refl
  keep_all f (x ∷ l) h = rw (h x (here refl)) (ap (λ (k : List A). x ∷ k) (keep_all f l (λ y m. h y (there m))))

  pub keep_none : (f : A → Bool) (l : List A) → ((x : A) → f x ≡ false) → keep f l ≡ []
  unfolding keep
  keep_none f [] h = refl
  keep_none f (x ∷ l) h = rw (h x) (keep_none f l h)

  -- two tests that agree on the list
  pub keep_agree : (f g : A → Bool) (l : List A) → ((x : A) → Mem x l → f x ≡ g x) → keep f l ≡ keep g l
  unfolding keep
  keep_agree f g [] h = refl
  keep_agree f g (x ∷ l) h = rw (h x (here refl)) (ap (keep_one (g x) x) (keep_agree f g l (λ y m. h y (there m))))

  pub keep_append : (f : A → Bool) (xs ys : List A) → keep f (xs ++ ys) ≡ keep f xs ++ keep f ys
  unfolding keep
  keep_append f [] ys = refl
  keep_append f (x ∷ xs) ys = ap (keep_one (f x) x) (keep_append f xs ys) ∙ one (f x) (keep f xs) (keep f ys)
    where
      one : (t : Bool) (us vs : List A) → keep_one t x (us ++ vs) ≡ keep_one t x us ++ vs
      one true us vs = refl
      one false us vs = refl
