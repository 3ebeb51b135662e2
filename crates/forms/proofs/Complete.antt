-- What is of a fair form is read, whatever follows that does not go on with it, and its broken bounds are found in their order. Assumes nothing.
use Rattle.std.specs.Prelude.{if◌then◌else◌}
use mathlib.Core.Path.{◌≡◌, refl, sym, ap, subst, ◌∙◌}
use mathlib.Core.Bool.{Bool, true, false, not, ◌&&◌, ◌||◌}
use mathlib.Core.List.{List, [], ◌∷◌, ◌++◌, append_assoc}
use mathlib.Core.Logic.{◌⊎◌, inl, inr, ⊎_elim}
use Prim.Native.Nat.{ℕ, zero, suc, ◌≤◌, ◌<◌}
use native.Mathlib.Omega.{arith}
use native.Mathlib.Nat.{le_refl}
use lib.ListN.{length, length-append}
use lib.Dec.{ltb, leb}
use borrow.Author.Tests.{leb-true, ltb-true}
use Rattle.forms.proofs.Bools.{by_cases, both_left, both_right}
use Rattle.forms.specs.Form.{Class, has, Form, pure, byte, pair, alt, many, fmap, bound, Row, none, more, Means}
use Rattle.forms.specs.Bounds.{Bounded, row_bounds, bounds}
use Rattle.forms.specs.Scan.{Scan, Got, nullable, first_set, follow_set, begins, loop, scan, overs, over, clear, apart, is_ll1}
use Rattle.forms.proofs.Bounds.{left_at, left_append, left_both, left_last, none_left}
use Rattle.forms.proofs.Within.{within_bounds}
use Rattle.forms.proofs.Sound.{never}

-- ---- classes

pub has_left : (c d : Class) (b : ℕ) → has c b ≡ true → has (c ++ d) b ≡ true
unfolding has
has_left [] d b e = never (cc)
has_left (r ∷ c) d b e = by_cases ((leb r.0 b) && (leb b r.1)) (λ t. rw t) (λ t. rw t (has_left c d b (rw t at e)))

has_right : (c d : Class) (b : ℕ) → has d b ≡ true → has (c ++ d) b ≡ true
unfolding has
has_right [] d b e = e
has_right (r ∷ c) d b e = by_cases ((leb r.0 b) && (leb b r.1)) (λ t. rw t) (λ t. rw t (has_right c d b e))

pub lacks_left : (c d : Class) (l : List ℕ) → begins (c ++ d) l ≡ false → begins c l ≡ false
lacks_left c d [] e = refl
lacks_left c d (b ∷ l) e = by_cases (has c b) (λ t. let q = has_left c d b t in never (cc)) (λ t. t)

pub lacks_right : (c d : Class) (l : List ℕ) → begins (c ++ d) l ≡ false → begins d l ≡ false
lacks_right c d [] e = refl
lacks_right c d (b ∷ l) e = by_cases (has d b) (λ t. let q = has_right c d b t in never (cc)) (λ t. t)

in_span : (r : ℕ × ℕ) (b : ℕ) → ((leb r.0 b) && (leb b r.1)) ≡ true → (r.0 ≤ b) × (b ≤ r.1)
in_span r b e = (leb-true r.0 b (both_left (leb r.0 b) (leb b r.1) e), leb-true b r.1 (both_right (leb r.0 b) (leb b r.1) e))

clear_not : (r : ℕ × ℕ) (d : Class) (b : ℕ) → clear r d ≡ true → r.0 ≤ b → b ≤ r.1 → has d b ≡ true → ◌≡◌ {A = ℕ} 0 1
unfolding has
clear_not r [] b e h k m = cc
clear_not r (q ∷ d) b e h k m =
    let e1 = both_left ((ltb r.1 q.0) || (ltb q.1 r.0)) (clear r d) e in
    let e2 = both_right ((ltb r.1 q.0) || (ltb q.1 r.0)) (clear r d) e in
    by_cases ((leb q.0 b) && (leb b q.1))
    (λ t.
    let i = in_span q b t in
    by_cases (ltb r.1 q.0)
    (λ u. let g = ltb-true r.1 q.0 u in absurd (omega (arith, g, i.0, k)))
    (λ u. let g = ltb-true q.1 r.0 (rw u at e1) in absurd (omega (arith, g, i.1, h))))
    (λ t. clear_not r d b e2 h k (rw t at m))

apart_not : (c d : Class) (b : ℕ) → apart c d ≡ true → has c b ≡ true → has d b ≡ true → ◌≡◌ {A = ℕ} 0 1
unfolding has
apart_not [] d b e h m = cc
apart_not (r ∷ c) d b e h m =
    let e1 = both_left (clear r d) (apart c d) e in
    let e2 = both_right (clear r d) (apart c d) e in
    by_cases ((leb r.0 b) && (leb b r.1))
    (λ t. let i = in_span r b t in clear_not r d b e1 i.0 i.1 m)
    (λ t. apart_not c d b e2 (rw t at h) m)

-- a byte of the one class is none of the other
pub apart_lacks : (c d : Class) (b : ℕ) → apart c d ≡ true → has d b ≡ true → has c b ≡ false
apart_lacks c d b e m = by_cases (has c b) (λ t. never (apart_not c d b e t m)) (λ t. t)

-- ---- how a text of a form can begin

app_nil : (y z : List ℕ) → [] ≡ y ++ z → (y ≡ []) × (z ≡ [])
app_nil [] z e = (refl, sym e)
app_nil (b ∷ y) z e = never (cc)

pub empty_of : {A : Type 0} (k : Bool) (f : Form A) (v : A) → Means k f [] v → nullable f ≡ true
unfolding Means
empty_of k (pure a) v m = refl
empty_of k (byte c) v m = let q = m.0 in never (cc)
empty_of k (pair f g) v m =
    let n = app_nil m.0 m.1 m.2 in
    let a = empty_of k f v.0 (subst (λ y. Means k f y v.0) n.0 m.3) in
    let b = empty_of k g v.1 (subst (λ y. Means k g y v.1) n.1 m.4) in
    rw (a, b)
empty_of k (alt f g) v (inl m) = rw (empty_of k f v m)
empty_of k (alt f g) v (inr m) = by_cases (nullable f) (λ t. rw t) (λ t. rw t (empty_of k g v m))
empty_of k (many f) v m = refl
empty_of k (fmap h f) v m = empty_of k f m.0 m.2
empty_of k (bound p j f) v m = empty_of k f v m.0

cons_app : (y z : List ℕ) (b : ℕ) (l : List ℕ) → b ∷ l ≡ y ++ z → ((y ≡ []) × (z ≡ b ∷ l)) ⊎ ((t : List ℕ) × (y ≡ b ∷ t))
cons_app [] z b l e = inl (refl, sym e)
cons_app (a ∷ y) z b l e = let q : a ≡ b = cc in inr (y, rw q)

row_first : {A : Type 0} (P : List ℕ → A → Type 0) (c : Class) → ((b : ℕ) (l : List ℕ) (v : A) → P (b ∷ l) v → has c b ≡ true) → {x : List ℕ} {vs : List A}
    → Row P x vs → (b : ℕ) (l : List ℕ) → x ≡ b ∷ l → has c b ≡ true
row_first P c h none b l e = never (cc)
row_first P c h (more {x} {y} {v} p q) b l e =
    ⊎_elim (λ n. row_first P c h q b l n.1) (λ n. h b n.0 v (subst (λ u. P u v) n.1 p)) (cons_app x y b l (sym e))

pub first_of : {A : Type 0} (k : Bool) (f : Form A) (b : ℕ) (l : List ℕ) (v : A) → Means k f (b ∷ l) v → has (first_set f) b ≡ true
unfolding Means
first_of k (pure a) b l v m = let q = m.0 in never (cc)
first_of k (byte c) b l v m = let q : b ≡ v = let r = m.0 in cc in rw q m.1
first_of k (pair f g) b l v m =
    ⊎_elim
    (λ n.
    let t = empty_of k f v.0 (subst (λ y. Means k f y v.0) n.0 m.3) in
    let u = first_of k g b l v.1 (subst (λ y. Means k g y v.1) n.1 m.4) in
    rw t (has_right (first_set f) (first_set g) b u))
    (λ n. has_left (first_set f) _ b (first_of k f b n.0 v.0 (subst (λ y. Means k f y v.0) n.1 m.3)))
    (cons_app m.0 m.1 b l m.2)
first_of k (alt f g) b l v (inl m) = has_left (first_set f) (first_set g) b (first_of k f b l v m)
first_of k (alt f g) b l v (inr m) = has_right (first_set f) (first_set g) b (first_of k g b l v m)
first_of k (many f) b l v m = row_first (λ x w. Means k f x w) (first_set f) (λ a y w n. first_of k f a y w n) m b l refl
first_of k (fmap h f) b l v m = first_of k f b l m.0 m.2
first_of k (bound p j f) b l v m = first_of k f b l v m.0

-- ---- complete

quiet : (d : Class) (y r : List ℕ) → (y ≡ [] → begins d r ≡ false) → ((b : ℕ) (t : List ℕ) → y ≡ b ∷ t → has d b ≡ false) → begins d (y ++ r) ≡ false
quiet d [] r h k = h refl
quiet d (b ∷ y) r h k = k b y refl

loud : (c : Class) (y r : List ℕ) → (y ≡ [] → ◌≡◌ {A = ℕ} 0 1) → ((b : ℕ) (t : List ℕ) → y ≡ b ∷ t → has c b ≡ true) → begins c (y ++ r) ≡ true
loud c [] r h k = never (h refl)
loud c (b ∷ y) r h k = k b y refl

pub some_byte : (y : List ℕ) → (y ≡ [] → ◌≡◌ {A = ℕ} 0 1) → 0 < length y
some_byte [] h = never (h refl)
some_byte (b ∷ y) h = omega arith

module _ {A : Type 0} (P : List ℕ → A → Type 0) (h : (x : List ℕ) (v : A) → P x v → List Bounded) (c d : Class) (s : List ℕ → Scan A)
    (o : List ℕ → List (List ℕ))
    (read : (x : List ℕ) (v : A) (r : List ℕ) (m : P x v) → begins d r ≡ false → (s (x ++ r) ≡ Got v r) × (o (x ++ r) ≡ left_at (x ++ r) (h x v m)))
    (starts : (b : ℕ) (l : List ℕ) (v : A) → P (b ∷ l) v → has c b ≡ true) (full : (v : A) → P [] v → ◌≡◌ {A = ℕ} 0 1) (far : apart d c ≡ true) where
  loop_reads : {x : List ℕ} {vs : List A} (m : Row P x vs) (n : ℕ) (r : List ℕ) → length (x ++ r) ≤ n → begins (d ++ c) r ≡ false
      → (loop c s n (x ++ r) ≡ Got vs r) × (overs c s o n (x ++ r) ≡ left_at (x ++ r) (row_bounds P h m))
  unfolding loop overs
  loop_reads none zero r k z = (refl, refl)
  loop_reads none (suc n) r k z = let e = lacks_right d c r z in (rw e, rw e)
  loop_reads (more {x} {y} {v} {vs} p q) zero r k z = absurd (omega (arith, some_byte x (λ e. full v (subst (λ u. P u v) e p)), simp length-append at k))
  loop_reads (more {x} {y} {v} {vs} p q) (suc n) r k z =
      let e1 : begins c (x ++ (y ++ r)) ≡ true = loud c x (y ++ r) (λ e. full v (subst (λ u. P u v) e p)) (λ b t e. starts b t v (subst (λ u. P u v) e p)) in
      let e2 : begins d (y ++ r) ≡ false = quiet d y r (λ e. lacks_left d c r z) (λ b t e. apart_lacks d c b far (row_first P c starts q b t e)) in
      let e3 = read x v (y ++ r) p e2 in
      let e4 : length (y ++ r) ≤ n = omega (arith, some_byte x (λ e. full v (subst (λ u. P u v) e p)), simp length-append at k, length-append y r) in
      let e5 = loop_reads q n r e4 z in (
        rw (append_assoc, e1, e3.0, e5.0),
        rw (append_assoc, e1, e3.0, e3.1, e5.1) (sym (left_both (x ++ (y ++ r)) x (y ++ r) (h x v p) (row_bounds P h q) refl)),
      )

pub both3 : (a b c : Bool) → ((a && b) && c) ≡ true → (a ≡ true) × (b ≡ true) × (c ≡ true)
both3 a b c e = let x = both_left (a && b) c e in (both_left a b x, both_right a b x, both_right (a && b) c e)

pub no_empty : {A : Type 0} (k : Bool) (f : Form A) → not (nullable f) ≡ true → (v : A) → Means k f [] v → ◌≡◌ {A = ℕ} 0 1
no_empty k f e v m = let t = empty_of k f v m in let q : false ≡ true = rw t at e in cc

-- COMPLETE: what is of the form is read, and its broken bounds are found
pub reads : {A : Type 0} (f : Form A) → is_ll1 f ≡ true → (x : List ℕ) (v : A) (r : List ℕ) (m : Means false f x v) → begins (follow_set f) r ≡ false
    → (scan f (x ++ r) ≡ Got v r) × (over f (x ++ r) ≡ left_at (x ++ r) (bounds f x v m))
unfolding scan Means over bounds
reads (pure a) w x v r m z = let e = m.0 in let g = m.1 in (rw (e, g), refl)
reads (byte c) w x v r m z = let e = m.0 in let t = m.1 in (rw (e, t), refl)
reads (pair f g) w x v r m z =
    let b = both3 (is_ll1 f) (is_ll1 g) (apart (follow_set f) (first_set g)) w in
    let i = m.0 in
    let j = m.1 in
    let e1 : begins (follow_set f) (j ++ r) ≡ false =
    quiet (follow_set f) j r
    (λ e. let t = empty_of false g v.1 (subst (λ y. Means false g y v.1) e m.4) in lacks_right (follow_set g) (follow_set f) r (rw t at z))
    (λ a t e. apart_lacks (follow_set f) (first_set g) a b.2 (first_of false g a t v.1 (subst (λ y. Means false g y v.1) e m.4))) in
    let e2 = reads f b.0 i v.0 (j ++ r) m.3 e1 in
    let e3 = reads g b.1 j v.1 r m.4 (lacks_left (follow_set g) (if nullable g then (follow_set f) else []) r z) in
    let e4 = m.2 in (
      rw (e4, append_assoc, e2.0, e3.0),
      rw (e4, append_assoc, e2.0, e2.1, e3.1)
          (sym (left_both (i ++ (j ++ r)) i (j ++ r) (bounds f i v.0 m.3) (bounds g j v.1 m.4) refl)),
    )
reads (alt f g) w x v r (inl m) z =
    let b = both3 (is_ll1 f) (is_ll1 g) ((not (nullable f)) && (apart (first_set f) (first_set g))) w in
    let n = both_left (not (nullable f)) (apart (first_set f) (first_set g)) b.2 in
    let e1 : begins (first_set f) (x ++ r) ≡ true =
    loud (first_set f) x r (λ e. no_empty false f n v (subst (λ y. Means false f y v) e m))
    (λ a t e. first_of false f a t v (subst (λ y. Means false f y v) e m)) in
    let e2 = reads f b.0 x v r m (lacks_left (follow_set f) (follow_set g ++ (if nullable g then (first_set f) else [])) r z) in
    (rw e1 e2.0, rw e1 e2.1)
reads (alt f g) w x v r (inr m) z =
    let b = both3 (is_ll1 f) (is_ll1 g) ((not (nullable f)) && (apart (first_set f) (first_set g))) w in
    let n = both_right (not (nullable f)) (apart (first_set f) (first_set g)) b.2 in
    let z1 = lacks_right (follow_set f) (follow_set g ++ (if nullable g then (first_set f) else [])) r z in
    let e1 : begins (first_set f) (x ++ r) ≡ false =
    quiet (first_set f) x r
    (λ e. let t = empty_of false g v (subst (λ y. Means false g y v) e m) in lacks_right (follow_set g) (first_set f) r (rw t at z1))
    (λ a t e. apart_lacks (first_set f) (first_set g) a n (first_of false g a t v (subst (λ y. Means false g y v) e m))) in
    let e2 = reads g b.1 x v r m (lacks_left (follow_set g) (if nullable g then (first_set f) else []) r z1) in
    (rw e1 e2.0, rw e1 e2.1)
reads (many f) w x v r m z =
    let b = both_left (is_ll1 f) ((not (nullable f)) && (apart (follow_set f) (first_set f))) w in
    let b2 = both_right (is_ll1 f) ((not (nullable f)) && (apart (follow_set f) (first_set f))) w in
    let n = both_left (not (nullable f)) (apart (follow_set f) (first_set f)) b2 in
    let n2 = both_right (not (nullable f)) (apart (follow_set f) (first_set f)) b2 in
    loop_reads (λ y u. Means false f y u) (λ y u p. bounds f y u p) (first_set f) (follow_set f) (λ t. scan f t) (λ t. over f t)
    (λ y u t p q. reads f b y u t p q)
    (λ a t u p. first_of false f a t u p) (λ u p. no_empty false f n u p) n2 m (length (x ++ r)) r (le_refl _) z
reads (fmap h f) w x v r m z =
    let e1 = reads f w x m.0 r m.2 z in
    let e2 = m.1 in
    (rw (e1.0, e2), e1.1)
reads (bound p j f) w x v r m z =
    let e1 = reads f w x v r m.0 z in
    let bs = bounds f x v m.0 in (
      e1.0,
      rw (e1.1, e1.0)
          (ap (λ l. left_at (x ++ r) bs ++ l) (left_last (x ++ r) x (j v) (p v))
          ∙ sym (left_append (x ++ r) bs (record { before = 0; part = x; skip = j v; kept = p v } ∷ []))),
    )

-- the scanner answers with v and leaves r, and with k true no bound is broken
abbrev pub Reads : {A : Type 0} → Bool → Form A → List ℕ → A → List ℕ → Type 0
Reads k f l v r = (scan f l ≡ Got v r) × (k ≡ true → over f l ≡ [])

-- with the bounds or without
pub complete : {A : Type 0} (k : Bool) (f : Form A) → is_ll1 f ≡ true → (x : List ℕ) (v : A) (r : List ℕ) → Means k f x v → begins (follow_set f) r ≡ false
    → Reads k f (x ++ r) v r
complete false f w x v r m z = ((reads f w x v r m z).0, λ q. never (cc))
complete true f w x v r m z =
    let n = (within_bounds f x v).0 m in
    let i = reads f w x v r n.0 z in
    (i.0, λ q. i.1 ∙ none_left (x ++ r) (bounds f x v n.0) n.1)
