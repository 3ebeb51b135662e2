-- A word's form means the word in any letter case (`keyword_means`).
use Rattle.std.specs.Prelude.{if◌then◌else◌}
use mathlib.Core.Path.{◌≡◌, refl, sym, ap, ◌∙◌}
use mathlib.Core.Bool.{Bool, true, false, not, ◌&&◌}
use mathlib.Core.List.{List, [], ◌∷◌, ◌++◌}
use mathlib.Core.Logic.{◌↔◌}
use Prim.Native.Nat.{ℕ, suc, ◌+◌, ◌-◌, ◌≤◌}
use native.Mathlib.Omega.{arith}
use lib.ListN.{length}
use lib.Dec.{eqb, leb}
use borrow.Author.Tests.{eqb-true, eqb-false, eq-eqb, ne_eqb, le-leb, lt-leb, leb-true, not-true}
use Rattle.forms.specs.Bytes.{between, lower, same_word}
use Rattle.forms.specs.Form.{Class, has, Means}
use Rattle.forms.specs.Pieces.{keyword}
use Rattle.forms.proofs.Bools.{by_cases, both_left, both_right}
use Rattle.forms.proofs.Sound.{never}

-- bytes that are a word are as many as its letters
pub word_length : (x w : List ℕ) → same_word x w ≡ true → length x ≡ length w
unfolding same_word
word_length [] [] e = refl
word_length [] (y ∷ w) e = never (cc)
word_length (b ∷ x) [] e = never (cc)
word_length (b ∷ x) (y ∷ w) e = ap suc (word_length x w (both_right (eqb (lower b) y) (same_word x w) e))

pub span_one : (b d : ℕ) → between d d b ≡ eqb b d
span_one b d =
    by_cases (eqb b d)
    (λ t. let e = eqb-true b d t in rw (t, le-leb d b (omega (arith, e)), le-leb b d (omega (arith, e))))
    (λ t.
    let n = eqb-false b d t in
    by_cases (leb d b)
    (λ u. let g : d ≤ b = leb-true d b u in rw (t, u, lt-leb b d (omega (arith, g, n))))
    (λ u. rw (t, u)))

abbrev capital : ℕ → Bool
capital b = between 65 90 b

abbrev case_class : ℕ → Class
case_class y = if between 97 122 y then (y, y) ∷ (y - 32, y - 32) ∷ [] else (y, y) ∷ []

record Inside (a b c : ℕ) : Type 0 where
  low : a ≤ b
  high : b ≤ c

inside : (a b c : ℕ) → between a c b ≡ true → Inside a b c
inside a b c e = record { low = leb-true a b (both_left (leb a b) (leb b c) e); high = leb-true b c (both_right (leb a b) (leb b c) e) }

is_inside : (a b c : ℕ) → a ≤ b → b ≤ c → between a c b ≡ true
is_inside a b c h g = rw (le-leb a b h, le-leb b c g)

-- a byte of a word, in either case
pub any_case_lem : (y b : ℕ) → capital y ≡ false → has (case_class y) b ≡ eqb (lower b) y
unfolding has lower
any_case_lem y b c =
    by_cases (between 97 122 y)
    (λ t.
    let s = inside 97 y 122 t in
    rw (t, span_one b y, span_one b (y - 32))
    (by_cases (capital b)
    (λ u.
    let r = inside 65 b 90 u in
    rw (u, ne_eqb b y (λ e. omega (arith, e, s.low, r.high)))
    (by_cases (eqb b (y - 32))
    (λ x. let e = eqb-true b (y - 32) x in rw (x, eq-eqb (b + 32) y (omega (arith, e, s.low))))
    (λ x. let n = eqb-false b (y - 32) x in rw (x, ne_eqb (b + 32) y (λ e. n (omega (arith, e)))))))
    (λ u.
    rw u (by_cases (eqb b y) (λ x. rw x)
    (λ x. rw (
      x,
      ne_eqb b (y - 32) (λ e. let q : capital b ≡ true = is_inside 65 b 90 (omega (arith, e, s.low)) (omega (arith, e, s.high)) in
          never (cc)),
    ))))))
    (λ t.
    rw (t, span_one b y)
    (by_cases (capital b)
    (λ u.
    let r = inside 65 b 90 u in
    rw (
      u,
      ne_eqb b y (λ e. let q : capital y ≡ true = rw (← e) u in
          never (cc)),
      ne_eqb (b + 32) y (λ e. let q : between 97 122 y ≡ true = is_inside 97 y 122 (omega (arith, e, r.low)) (omega (arith, e, r.high)) in
          never (cc)),
    ))
    (λ u. rw u (by_cases (eqb b y) (λ x. rw x) (λ x. rw x)))))

-- no byte is a capital
pub small : List ℕ → Bool
small [] = true
small (b ∷ w) = not (capital b) && small w

small_parts : (y : ℕ) (w : List ℕ) → small (y ∷ w) ≡ true → (capital y ≡ false) × (small w ≡ true)
unfolding small
small_parts y w s = (not-true (capital y) (both_left (not (capital y)) (small w) s), both_right (not (capital y)) (small w) s)

keyword_is : {A : Type 0} (k : Bool) (w : List ℕ) (a : A) → small w ≡ true → (x : List ℕ) (v : A) → Means k (keyword w a) x v → (same_word x w ≡ true) × (v ≡ a)
unfolding Means same_word
keyword_is k [] a s x v m = let e = m.0 in (rw e, m.1)
keyword_is k (y ∷ w) a s x v m =
    let c = small_parts y w s in
    let r = m.2 in
    let i = keyword_is k w a c.1 r.1 m.0.1 r.4 in
    let e : x ≡ m.0.0 ∷ r.1 = r.2 ∙ ap (λ t. t ++ r.1) r.3.0 in
    let q : eqb (lower m.0.0) y ≡ true = sym (any_case_lem y m.0.0 c.0) ∙ r.3.1 in
    (ap (λ t. same_word t (y ∷ w)) e ∙ ap (λ t. t && same_word r.1 w) q ∙ i.0, m.1 ∙ i.1)

keyword_makes : {A : Type 0} (k : Bool) (w : List ℕ) (a : A) → small w ≡ true → (x : List ℕ) (v : A) → same_word x w ≡ true → v ≡ a → Means k (keyword w a) x v
unfolding Means same_word
keyword_makes k [] a s [] v e q = (refl, q)
keyword_makes k [] a s (b ∷ x) v e q = never (cc)
keyword_makes k (y ∷ w) a s [] v e q = never (cc)
keyword_makes k (y ∷ w) a s (b ∷ x) v e q =
    let c = small_parts y w s in (
      (b, v),
      refl,
      (
        b ∷ [],
        x,
        refl,
        (refl, any_case_lem y b c.0 ∙ both_left (eqb (lower b) y) (same_word x w) e),
        keyword_makes k w a c.1 x v
            (both_right (eqb (lower b) y) (same_word x w) e) q,
      ),
    )

-- THE MEANING of a word's form: the word, its letters in either case
pub keyword_means : {A : Type 0} (k : Bool) (w : List ℕ) (a : A) → small w ≡ true → (x : List ℕ) (v : A)
    → Means k (keyword w a) x v ↔ ((same_word x w ≡ true) × (v ≡ a))
keyword_means k w a s x v = (λ m. keyword_is k w a s x v m, λ m. keyword_makes k w a s x v m.0 m.1)
