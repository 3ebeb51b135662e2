-- Lists that rise strictly: what is kept of one rises too. A list of placements that rises holds none twice (`rising_once`), and those of it that are after
-- one of it are those that follow it (`keep_after`); those after the first of what is after some starts are the rest of that (`kept_rest`).
use mathlib.Core.Path.{◌≡◌, refl, sym, ◌∙◌, subst}
use mathlib.Core.Logic.{⊎_elim}
use mathlib.Core.Bool.{Bool, true, false, false≢true}
use mathlib.Core.List.Memᴰ.{head as here}
use mathlib.Core.List.{List, [], ◌∷◌, ◌++◌, nil≢cons, head-eq_of_cons-eq, tail-eq_of_cons-eq, Memᴰ as Mem}
use mathlib.Core.List.Memᴰ.{cases_cons}
use mathlib.Core.List.Memᴰ.{not-nil}
use mathlib.Core.List.Memᴰ.{tail as there}
use mathlib.Core.List.Memᴰ.{append_cases}
use mathlib.Core.List.Memᴰ.{append_right}
use Prim.Native.Nat.{ℕ, ◌≤◌}
use lib.ListN.{length, take}
use Rattle.definitions.specs.declared.packets.Start.{Start}
use Rattle.definitions.specs.Lists.{keep, keep_one}
use Rattle.definitions.specs.Placements.{lex_less}
use Rattle.laws.proofs.Keep.{keep_in, keep_all, keep_agree}
use Rattle.laws.proofs.LexOrder.{lex_less-not-both, lex_less-not-self, lex_less-trans, lex_less-take}

-- ---- of any elements

-- the list rises strictly: each is followed only by those after it
abbrev pub Rises : {A : Type 0} → (A → A → Bool) → List A → Type 0
Rises less [] = Unit {0}
Rises {A} less (x ∷ xs) = ((y : A) → Mem y xs → less x y ≡ true) × Rises less xs

pub rises_append : {A : Type 0} (less : A → A → Bool) (xs ys : List A) → Rises less xs → Rises less ys → ((x y : A) → Mem x xs → Mem y ys → less x y ≡ true)
    → Rises less (xs ++ ys)
rises_append less [] ys hx hy h = hy
rises_append less (x ∷ xs) ys hx hy h =
    (λ q m. ⊎_elim (λ n. hx.0 q n) (λ n. h x q (here refl) n) (append_cases xs m), rises_append less xs ys hx.1 hy (λ u v m n. h u v (there m) n))

pub keep_rises : {A : Type 0} (less : A → A → Bool) (f : A → Bool) (l : List A) → Rises less l → Rises less (keep f l)
unfolding keep
keep_rises less f [] r = tt
keep_rises {A} less f (x ∷ l) r = go (f x) (keep_rises less f l r.1)
  where
    go : (t : Bool) → Rises less (keep f l) → Rises less (keep_one t x (keep f l))
    go true ih = ((λ q n. r.0 q (keep_in f q l n).0), ih)
    go false ih = ih

-- ---- of placements

abbrev pub Rising : List (List Start) → Type 0
Rising l = Rises lex_less l

-- each once
pub rising_once : (xs : List (List Start)) (q : List Start) (ys : List (List Start)) → Rising (xs ++ (q ∷ ys)) → (Mem q xs → ⊥) × (Mem q ys → ⊥)
rising_once [] q ys r = ((λ n. not-nil n), (λ n. false≢true (sym (lex_less-not-self q) ∙ r.0 q n)))
rising_once (x ∷ xs) q ys r =
    let ih = rising_once xs q ys r.1 in
    let after : lex_less x q ≡ true = r.0 q (append_right xs (here refl)) in
    let other : q ≡ x → ⊥ = λ e. false≢true (sym (lex_less-not-self q) ∙ subst (λ (u : List Start). lex_less u q ≡ true) (sym e) after) in
    ((λ n. ⊎_elim other (λ k. ih.0 k) (cases_cons n)), ih.1)

-- of a rising list, those after one of it are those that follow it
pub keep_after : (pre : List (List Start)) (q : List Start) (rest : List (List Start)) → Rising (pre ++ q ∷ rest) → keep (lex_less q) (pre ++ q ∷ rest) ≡ rest
unfolding keep
keep_after [] q rest r = rw (lex_less-not-self q) (keep_all (lex_less q) rest r.0)
keep_after (x ∷ pre) q rest r = rw (lex_less-not-both x q (r.0 q (append_right pre (here refl)))) (keep_after pre q rest r.1)

-- what is after the first of those after b is the rest of them
module _ (b q : List Start) (qs : List (List Start)) where
  pub kept_first : (l : List (List Start)) → keep (lex_less b) l ≡ q ∷ qs → Mem q l
  kept_first l e = (keep_in (lex_less b) q l (subst (λ (k : List (List Start)). Mem q k) (sym e) (here refl))).0

  pub kept_rest : (l : List (List Start)) → Rising l → keep (lex_less b) l ≡ q ∷ qs → keep (lex_less q) l ≡ qs
  unfolding keep
  kept_rest [] r e = absurd (nil≢cons e)
  kept_rest (x ∷ l) r e = go (lex_less b x) refl (kept_rest l r.1)
    where
      go : (k : Bool) → lex_less b x ≡ k → (keep (lex_less b) l ≡ q ∷ qs → keep (lex_less q) l ≡ qs) → keep (lex_less q) (x ∷ l) ≡ qs
      go true h ih =
          let e' : x ∷ keep (lex_less b) l ≡ q ∷ qs = rw h at e in
          let all : keep (lex_less b) l ≡ l = keep_all (lex_less b) l (λ y n. lex_less-trans b x y h (r.0 y n)) in
          subst (λ (u : List Start). keep (lex_less u) (x ∷ l) ≡ qs) (head-eq_of_cons-eq e') (keep_after [] x l r ∙ sym all ∙ tail-eq_of_cons-eq e')
      go false h ih =
          let e' : keep (lex_less b) l ≡ q ∷ qs = rw h at e in
          rw (lex_less-not-both x q (r.0 q (kept_first l e'))) (ih e')

-- of the starts ss only as many matter as each placement of the list has
pub keep_take : (n : ℕ) (ss : List Start) (l : List (List Start)) → ((q : List Start) → Mem q l → length q ≤ n)
    → keep (lex_less ss) l ≡ keep (lex_less (take n ss)) l
keep_take n ss l h = keep_agree (lex_less ss) (lex_less (take n ss)) l (λ q m. lex_less-take n ss q (h q m))
