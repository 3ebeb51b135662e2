-- Where the scanner stops: at the first byte with which the text begins no text of the form. Assumes nothing.
use Rattle.std.specs.Prelude.{if◌then◌else◌}
use mathlib.Core.Path.{◌≡◌, refl, sym, ap, subst, ◌∙◌, fun_ext}
use mathlib.Core.Bool.{Bool, true, false, not, ◌&&◌}
use mathlib.Core.List.{List, [], ◌∷◌, ◌++◌, append_assoc, append-nil, append_cancel_right}
use mathlib.Core.Logic.{inl, inr, ⊎_elim, ◌↔◌}
use Prim.Native.Nat.{ℕ, zero, suc, ◌≤◌, ◌<◌}
use native.Mathlib.Omega.{arith}
use native.Mathlib.Nat.{le_refl}
use lib.ListN.{length, length-append, take}
use borrow.Author.Tests.{le-leb}
use Rattle.forms.proofs.Bools.{by_cases, both_left, both_right}
use Rattle.forms.specs.Form.{Class, has, Form, pure, byte, pair, alt, many, fmap, bound, Row, none, more, Means}
use Rattle.forms.specs.Scan.{Scan, Got, Stop, on_got, nullable, first_set, follow_set, begins, one, loop, scan, onward, overs, over, apart, filled, is_ll1}
use Rattle.forms.proofs.Sound.{never, sound, sound_loose, stop_split, Read, after}
use Rattle.forms.proofs.Complete.{complete, Reads, both3, no_empty, some_byte}

-- ---- what was passed over begins a text of the form

has_one : (c : Class) → filled c ≡ true → (b : ℕ) × (has c b ≡ true)
unfolding has
has_one [] e = never (cc)
has_one (r ∷ c) e = (r.0, rw (le-leb r.0 r.0 (le_refl _), e))

member : {A : Type 0} (f : Form A) → is_ll1 f ≡ true → (x : List ℕ) × (v : A) × Means false f x v
unfolding Means
member (pure a) w = ([], a, (refl, refl))
member (byte c) w = let h = has_one c w in (h.0 ∷ [], h.0, (refl, h.1))
member (pair f g) w =
    let b = both3 (is_ll1 f) (is_ll1 g) (apart (follow_set f) (first_set g)) w in
    let i = member f b.0 in
    let j = member g b.1 in
    (i.0 ++ j.0, (i.1, j.1), (i.0, j.0, refl, i.2, j.2))
member (alt f g) w =
    let b = both3 (is_ll1 f) (is_ll1 g) ((not (nullable f)) && (apart (first_set f) (first_set g))) w in
    let i = member f b.0 in
    (i.0, i.1, inl i.2)
member (many f) w = ([], [], none)
member (bound p j f) w = let i = member f w in (i.0, i.1, (i.2, λ q. never (cc)))
member (fmap h f) w = let i = member f w in (i.0, h i.1, (i.1, refl, i.2))

-- l is p and then r, and p begins a text of P
abbrev pub Begun : {A : Type 0} → (List ℕ → A → Type 0) → List ℕ → List ℕ → Type 0
Begun {A} P l r = (p : List ℕ) × (y : List ℕ) × (v : A) × (l ≡ p ++ r) × P (p ++ y) v

one_begun : (c : Class) → filled c ≡ true → (l r : List ℕ) → one c l ≡ Stop r → Begun (λ x w. (x ≡ w ∷ []) × (has c w ≡ true)) l r
one_begun c w [] r e = let h = has_one c w in let q : [] ≡ r = cc in ([], h.0 ∷ [], h.0, q, (refl, h.1))
one_begun c w (b ∷ l) r e =
    let h = has_one c w in
    by_cases (has c b)
    (λ t. let q : Got b l ≡ Stop r = rw t at e in never (cc))
    (λ t. let q : ◌≡◌ {A = Scan ℕ} (Stop (b ∷ l)) (Stop r) = rw t at e in let y : b ∷ l ≡ r = cc in ([], h.0 ∷ [], h.0, y, (refl, h.1)))

loop_begun : {A : Type 0} (P : List ℕ → A → Type 0) (c : Class) (s : List ℕ → Scan A) → ((l : List ℕ) (v : A) (r : List ℕ) → s l ≡ Got v r → Read P l v r)
    → ((l r : List ℕ) → s l ≡ Stop r → Begun P l r) → (k : ℕ) (l r : List ℕ) → loop c s k l ≡ Stop r → Begun (Row P) l r
unfolding loop
loop_begun P c s g h zero l r e = never (cc)
loop_begun P c s g h (suc k) l r e =
    by_cases (begins c l)
    (λ t.
    ⊎_elim
    (λ q. let i = h l r q in (i.0, i.1 ++ [], i.2 ∷ [], i.3, rw (← append_assoc) (more i.4 none)))
    (λ q.
    ⊎_elim
    (λ u.
    let i = g l q.0 q.1 q.2 in
    let j = loop_begun P c s g h k q.1 r u in
    (i.0 ++ j.0, j.1, q.0 ∷ j.2, after i.0 j.0 l q.1 r i.1 j.3, rw append_assoc (more i.2 j.4)))
    (λ u. let z = u.3 in never (cc))
    (stop_split (loop c s k q.1) _ r q.3))
    (stop_split (s l) _ r (rw t at e)))
    (λ t. let q : Got [] l ≡ Stop r = rw t at e in never (cc))

pub begun : {A : Type 0} (f : Form A) → is_ll1 f ≡ true → (l r : List ℕ) → scan f l ≡ Stop r → Begun (λ x w. Means false f x w) l r
unfolding scan Means
begun (pure a) w l r e = never (cc)
begun (byte c) w l r e = one_begun c w l r e
begun (pair f g) w l r e =
    let b = both3 (is_ll1 f) (is_ll1 g) (apart (follow_set f) (first_set g)) w in
    ⊎_elim
    (λ q.
    let i = begun f b.0 l r q in
    let j = member g b.1 in
    (i.0, i.1 ++ j.0, (i.2, j.1), i.3, (i.0 ++ i.1, j.0, sym (append_assoc i.0 i.1 j.0), i.4, j.2)))
    (λ q.
    ⊎_elim
    (λ u.
    let i = sound_loose f l q.0 q.1 q.2 in
    let j = begun g b.1 q.1 r u in
    (i.0 ++ j.0, j.1, (q.0, j.2), after i.0 j.0 l q.1 r i.1 j.3, (i.0, j.0 ++ j.1, append_assoc i.0 j.0 j.1, i.2, j.4)))
    (λ u. let z = u.3 in never (cc))
    (stop_split (scan g q.1) _ r q.3))
    (stop_split (scan f l) _ r e)
begun (alt f g) w l r e =
    let b = both3 (is_ll1 f) (is_ll1 g) ((not (nullable f)) && (apart (first_set f) (first_set g))) w in
    by_cases (begins (first_set f) l)
    (λ t. let i = begun f b.0 l r (rw t at e) in (i.0, i.1, i.2, i.3, inl i.4))
    (λ t. let i = begun g b.1 l r (rw t at e) in (i.0, i.1, i.2, i.3, inr i.4))
begun (many f) w l r e =
    let b = both_left (is_ll1 f) ((not (nullable f)) && (apart (follow_set f) (first_set f))) w in
    loop_begun (λ x v. Means false f x v) (first_set f) (λ m. scan f m) (λ m v t q. sound_loose f m v t q) (λ m t q. begun f b m t q) (length l) l r e
begun (bound p j f) w l r e = let i = begun f w l r e in (i.0, i.1, i.2, i.3, (i.4, λ q. never (cc)))
begun (fmap h f) w l r e =
    ⊎_elim
    (λ q. let i = begun f w l r q in (i.0, i.1, h i.2, i.3, (i.2, refl, i.4)))
    (λ q. let z = q.3 in never (cc))
    (stop_split (scan f l) _ r e)

-- ---- one byte decides: nothing depends on what stands after the first byte that is left

abbrev rest : {A : Type 0} → Scan A → List ℕ
rest (Got v r) = r
rest (Stop r) = r

abbrev swap : {A : Type 0} → Scan A → List ℕ → Scan A
swap (Got v r) u = Got v u
swap (Stop r) u = Stop u

record Local {A : Type 0} (s : List ℕ → Scan A) (l : List ℕ) : Type 0 where
  passed : List ℕ
  split : l ≡ passed ++ rest (s l)
  same : (u : List ℕ) → take 1 (rest (s l)) ≡ take 1 u → s (passed ++ u) ≡ swap (s l) u

alike : (q t u : List ℕ) → take 1 t ≡ take 1 u → take 1 (q ++ t) ≡ take 1 (q ++ u)
alike [] t u e = e
alike (b ∷ q) t u e = refl

alike_begins : (c : Class) (t u : List ℕ) → take 1 t ≡ take 1 u → begins c t ≡ begins c u
alike_begins c [] [] e = refl
alike_begins c [] (b ∷ u) e = never (cc)
alike_begins c (b ∷ t) [] e = never (cc)
alike_begins c (b ∷ t) (d ∷ u) e = let q : b ≡ d = cc in rw q

local_bind : {A B : Type 0} (s : List ℕ → Scan A) (k : A → List ℕ → Scan B) (l : List ℕ) → Local s l
    → ((a : A) (m : List ℕ) → s l ≡ Got a m → Local (k a) m) → Local (λ m. on_got (s m) k) l
local_bind {A} {B} s k l i h = go (s l) refl
  where
    go : (o : Scan A) → s l ≡ o → Local (λ m. on_got (s m) k) l
    go (Got a m) e =
        let j = h a m e in
        let d1 : l ≡ i.passed ++ m = i.split ∙ rw e in
        record {
          passed = i.passed ++ j.passed;
          split = rw e (after i.passed j.passed l m (rest (k a m)) d1 j.split);
          same = λ u q.
              let q1 : take 1 (rest (k a m)) ≡ take 1 u = rw e at q in
              let q2 : take 1 m ≡ take 1 (j.passed ++ u) = ap (take 1) j.split ∙ alike j.passed (rest (k a m)) u q1 in
              let q3 : s (i.passed ++ (j.passed ++ u)) ≡ Got a (j.passed ++ u) = i.same (j.passed ++ u) (rw e q2) ∙ rw e in
              rw (append_assoc, q3, e) (j.same u q1);
        }
    go (Stop m) e =
        record {
          passed = i.passed;
          split = rw e (i.split ∙ rw e);
          same = λ u q.
              let q1 : take 1 m ≡ take 1 u = rw e at q in
              let q3 : s (i.passed ++ u) ≡ Stop u = i.same u (rw e q1) ∙ rw e in
              rw (q3, e);
        }

local_got : {A : Type 0} (a : A) (l : List ℕ) → Local (λ m. Got a m) l
local_got a l = record { passed = []; split = refl; same = λ u q. refl }

local_one : (c : Class) (l : List ℕ) → Local (λ m. one c m) l
local_one c [] = record { passed = []; split = refl; same = λ u q. local_end u q }
  where
    local_end : (u : List ℕ) → ◌≡◌ {A = List ℕ} [] (take 1 u) → one c u ≡ Stop u
    local_end [] q = refl
    local_end (b ∷ u) q = never (cc)
local_one c (b ∷ l) =
    by_cases (has c b)
    (λ t. record { passed = b ∷ []; split = rw t; same = λ u q. rw t })
    (λ t. record { passed = []; split = rw t; same = λ u q. go t u (rw t at q) })
  where
    go : has c b ≡ false → (u : List ℕ) → take 1 (b ∷ l) ≡ take 1 u → one c u ≡ swap (if has c b then (Got b l) else (Stop (b ∷ l))) u
    go t [] q = never (cc)
    go t (d ∷ u) q = let e : d ≡ b = cc in rw (e, t)

local_pick : {A : Type 0} (c : Class) (s t : List ℕ → Scan A) (l : List ℕ) → Local s l → Local t l → Local (λ m. (if begins c m then (s m) else (t m))) l
local_pick c s t l i j =
    by_cases (begins c l)
    (λ e. record {
      passed = i.passed;
      split = rw e i.split;
      same = λ u q.
          let q1 : take 1 (rest (s l)) ≡ take 1 u = rw e at q in
          let q2 : begins c (i.passed ++ u) ≡ true =
          sym (alike_begins c l (i.passed ++ u) (ap (take 1) i.split ∙ alike i.passed (rest (s l)) u q1)) ∙ e in
          rw (q2, e) (i.same u q1);
    })
    (λ e. record {
      passed = j.passed;
      split = rw e j.split;
      same = λ u q.
          let q1 : take 1 (rest (t l)) ≡ take 1 u = rw e at q in
          let q2 : begins c (j.passed ++ u) ≡ false =
          sym (alike_begins c l (j.passed ++ u) (ap (take 1) j.split ∙ alike j.passed (rest (t l)) u q1)) ∙ e in
          rw (q2, e) (j.same u q1);
    })

-- how much fuel there is does not matter, if there is enough
module _ {A : Type 0} (c : Class) (s : List ℕ → Scan A) (eats : (l : List ℕ) (v : A) (r : List ℕ) → s l ≡ Got v r → length r < length l) where
  once : (List ℕ → Scan (List A)) → List ℕ → Scan (List A)
  once k l = (if begins c l then (on_got (s l) (λ a r. on_got (k r) (λ vs t. Got (a ∷ vs) t))) else (Got [] l))

  fuel : (k n : ℕ) (l : List ℕ) → length l ≤ k → length l ≤ n → loop c s k l ≡ loop c s n l
  unfolding loop
  fuel zero zero l h g = refl
  fuel zero (suc n) [] h g = refl
  fuel zero (suc n) (b ∷ l) h g = absurd (omega (arith, h))
  fuel (suc k) zero [] h g = refl
  fuel (suc k) zero (b ∷ l) h g = absurd (omega (arith, g))
  fuel (suc k) (suc n) l h g =
      by_cases (begins c l) (λ t. rw t (by-got (s l) refl (λ a r q. fuel k n r (omega (arith, eats l a r q, h)) (omega (arith, eats l a r q, g))))) (λ t. rw t)
    where
      by-got : (o : Scan A) → s l ≡ o → ((a : A) (r : List ℕ) → s l ≡ Got a r → loop c s k r ≡ loop c s n r)
          → on_got o (λ a r. on_got (loop c s k r) (λ vs t. Got (a ∷ vs) t)) ≡ on_got o (λ a r. on_got (loop c s n r) (λ vs t. Got (a ∷ vs) t))
      by-got (Got a r) e f = rw (f a r e)
      by-got (Stop r) e f = refl

  unroll : (l : List ℕ) → loop c s (length l) l ≡ once (λ m. loop c s (length m) m) l
  unfolding loop once
  unroll [] = refl
  unroll (b ∷ l) = by_cases (begins c (b ∷ l))
      (λ t. rw t (by-got (s (b ∷ l)) refl (λ a r q. fuel (length l) (length r) r (omega (arith, eats (b ∷ l) a r q)) (le_refl _)))) (λ t. rw t)
    where
      by-got : (o : Scan A) → s (b ∷ l) ≡ o → ((a : A) (r : List ℕ) → s (b ∷ l) ≡ Got a r → loop c s (length l) r ≡ loop c s (length r) r)
          → on_got o (λ a r. on_got (loop c s (length l) r) (λ vs t. Got (a ∷ vs) t)) ≡ on_got o (λ a r. on_got (loop c s (length r) r) (λ vs t. Got (a ∷ vs) t))
      by-got (Got a r) e f = rw (f a r e)
      by-got (Stop r) e f = refl

  fuel_over : (o : List ℕ → List (List ℕ)) (k n : ℕ) (l : List ℕ) → length l ≤ k → length l ≤ n → overs c s o k l ≡ overs c s o n l
  unfolding overs
  fuel_over o zero zero l h g = refl
  fuel_over o zero (suc n) [] h g = refl
  fuel_over o zero (suc n) (b ∷ l) h g = absurd (omega (arith, h))
  fuel_over o (suc k) zero [] h g = refl
  fuel_over o (suc k) zero (b ∷ l) h g = absurd (omega (arith, g))
  fuel_over o (suc k) (suc n) l h g =
      by_cases (begins c l)
      (λ t. rw t (ap (λ x. o l ++ x) (by-got (s l) refl (λ a r q. fuel_over o k n r (omega (arith, eats l a r q, h)) (omega (arith, eats l a r q, g))))))
      (λ t. rw t)
    where
      by-got : (u : Scan A) → s l ≡ u → ((a : A) (r : List ℕ) → s l ≡ Got a r → overs c s o k r ≡ overs c s o n r)
          → onward u (λ a r. overs c s o k r) ≡ onward u (λ a r. overs c s o n r)
      by-got (Got a r) e f = f a r e
      by-got (Stop r) e f = refl

  unroll_over : (o : List ℕ → List (List ℕ)) (l : List ℕ)
      → overs c s o (length l) l ≡ (if begins c l then (o l ++ onward (s l) (λ a r. overs c s o (length r) r)) else [])
  unfolding overs
  unroll_over o [] = refl
  unroll_over o (b ∷ l) =
      by_cases (begins c (b ∷ l))
      (λ t. rw t (ap (λ x. o (b ∷ l) ++ x)
      (by-got (s (b ∷ l)) refl (λ a r q. fuel_over o (length l) (length r) r (omega (arith, eats (b ∷ l) a r q)) (le_refl _)))))
      (λ t. rw t)
    where
      by-got : (u : Scan A) → s (b ∷ l) ≡ u → ((a : A) (r : List ℕ) → s (b ∷ l) ≡ Got a r → overs c s o (length l) r ≡ overs c s o (length r) r)
          → onward u (λ a r. overs c s o (length l) r) ≡ onward u (λ a r. overs c s o (length r) r)
      by-got (Got a r) e f = f a r e
      by-got (Stop r) e f = refl

  local_loop : ((l : List ℕ) → Local s l) → (n : ℕ) (l : List ℕ) → length l ≤ n → Local (λ m. loop c s (length m) m) l
  unfolding once
  local_loop h zero l g =
      subst (λ k. Local k l) (fun_ext (λ m. sym (unroll m)))
      (local_pick c _ _ l (local_bind s _ l (h l) (λ a m e. absurd (omega (arith, eats l a m e, g)))) (local_got [] l))
  local_loop h (suc n) l g =
      subst (λ k. Local k l) (fun_ext (λ m. sym (unroll m)))
      (local_pick c _ _ l
      (local_bind s _ l (h l)
      (λ a m e. local_bind (λ m. loop c s (length m) m) _ m (local_loop h n m (omega (arith, eats l a m e, g))) (λ vs t q. local_got (a ∷ vs) t)))
      (local_got [] l))

eats_of : {A : Type 0} (f : Form A) → not (nullable f) ≡ true → (l : List ℕ) (v : A) (r : List ℕ) → scan f l ≡ Got v r → length r < length l
eats_of f n l v r e =
    let i = sound_loose f l v r e in
    let h = some_byte i.0 (λ z. no_empty false f n v (subst (λ x. Means false f x v) z i.2)) in
    omega (arith, h, ap length i.1 ∙ length-append i.0 r)

-- one turn of a star
pub many_unroll : {A : Type 0} (f : Form A) → not (nullable f) ≡ true → (l : List ℕ)
    → scan (many f) l ≡ (if begins (first_set f) l then (on_got (scan f l) (λ a r. on_got (scan (many f) r) (λ vs t. Got (a ∷ vs) t))) else (Got [] l))
unfolding scan once
many_unroll f n l = unroll (first_set f) (λ m. scan f m) (λ m v r e. eats_of f n m v r e) l

pub many_over : {A : Type 0} (f : Form A) → not (nullable f) ≡ true → (l : List ℕ)
    → over (many f) l ≡ (if begins (first_set f) l then (over f l ++ onward (scan f l) (λ a r. over (many f) r)) else [])
unfolding over
many_over f n l = unroll_over (first_set f) (λ m. scan f m) (λ m v r e. eats_of f n m v r e) (λ m. over f m) l

local : {A : Type 0} (f : Form A) → is_ll1 f ≡ true → (l : List ℕ) → Local (λ m. scan f m) l
unfolding scan
local (pure a) w l = local_got a l
local (byte c) w l = local_one c l
local (pair f g) w l =
    let b = both3 (is_ll1 f) (is_ll1 g) (apart (follow_set f) (first_set g)) w in
    local_bind (λ m. scan f m) _ l (local f b.0 l) (λ a m e. local_bind (λ m. scan g m) _ m (local g b.1 m) (λ v t q. local_got (a, v) t))
local (alt f g) w l =
    let b = both3 (is_ll1 f) (is_ll1 g) ((not (nullable f)) && (apart (first_set f) (first_set g))) w in
    local_pick (first_set f) (λ m. scan f m) (λ m. scan g m) l (local f b.0 l) (local g b.1 l)
local (many f) w l =
    let b = both_left (is_ll1 f) ((not (nullable f)) && (apart (follow_set f) (first_set f))) w in
    let b2 = both_right (is_ll1 f) ((not (nullable f)) && (apart (follow_set f) (first_set f))) w in
    let n = both_left (not (nullable f)) (apart (follow_set f) (first_set f)) b2 in
    local_loop (first_set f) (λ m. scan f m) (λ m v r e. eats_of f n m v r e) (λ m. local f b m) (length l) l (le_refl _)
local (bound p j f) w l = local f w l
local (fmap h f) w l = local_bind (λ m. scan f m) _ l (local f w l) (λ a m e. local_got (h a) m)

-- ---- the theorems

-- p and then r is the text l: p begins a text of the form, and p with r's first byte begins none
pub record StopsAt {A : Type 0} (f : Form A) (l r : List ℕ) : Type 0 where
  pub passed : List ℕ
  pub split : l ≡ passed ++ r
  pub onward : List ℕ
  pub value : A
  pub begins_one : Means false f (passed ++ onward) value
  pub no_further : (b : ℕ) (t y : List ℕ) (v : A) → r ≡ b ∷ t → Means false f (passed ++ b ∷ y) v → ⊥

-- THE PLACE where the scanner stops
pub stops_at : {A : Type 0} (f : Form A) → is_ll1 f ≡ true → (l r : List ℕ) → scan f l ≡ Stop r → StopsAt f l r
stops_at {A} f w l r e =
    let i = begun f w l r e in
    let j = local f w l in
    let d : l ≡ j.passed ++ r = j.split ∙ rw e in
    let z : j.passed ≡ i.0 = append_cancel_right j.passed i.0 r (sym d ∙ i.3) in
    record {
      passed = i.0;
      split = i.3;
      onward = i.1;
      value = i.2;
      begins_one = i.4;
      no_further = λ b t y v q m.
          let g : scan f (j.passed ++ b ∷ y) ≡ Stop (b ∷ y) = j.same (b ∷ y) (rw (e, q)) ∙ rw e in
          let h : scan f ((i.0 ++ b ∷ y) ++ []) ≡ Got v [] = (complete false f w (i.0 ++ b ∷ y) v [] m refl).0 in
          let k : scan f (i.0 ++ b ∷ y) ≡ Got v [] = rw append-nil at h in
          let g2 : scan f (i.0 ++ b ∷ y) ≡ Stop (b ∷ y) = subst (λ x. scan f (x ++ b ∷ y) ≡ Stop (b ∷ y)) z g in
          let n : ◌≡◌ {A = ℕ} 0 1 = cc in
          omega (arith, n);
    }

-- THE FORM EXACTLY: the scanner reads the whole of l with value v, and with k true breaks no bound, exactly if l is of the form with value v
pub exactly : {A : Type 0} (k : Bool) (f : Form A) → is_ll1 f ≡ true → (l : List ℕ) (v : A) → Reads k f l v [] ↔ Means k f l v
exactly k f w l v = (
  λ e. let i = sound k f l v [] e.0 e.1 in subst (λ x. Means k f x v) (sym (i.1 ∙ append-nil i.0)) i.2,
  λ m. subst (λ x. Reads k f x v []) (append-nil l) (complete k f w l v [] m refl),
)

-- so a text has one value
pub unambiguous : {A : Type 0} (k : Bool) (f : Form A) → is_ll1 f ≡ true → (l : List ℕ) (v u : A) → Means k f l v → Means k f l u → v ≡ u
unambiguous k f w l v u m n =
    let a = ((exactly k f w l v).1 m).0 in
    let b = ((exactly k f w l u).1 n).0 in
    cc
