-- Forms at places: how a function for a form is put together from functions for its parts. Assumes nothing.
use Rattle.std.specs.Prelude.{if◌then◌else◌}
use mathlib.Core.Path.{◌≡◌, refl, sym, ap, ◌∙◌}
use mathlib.Core.Bool.{Bool, true, not}
use mathlib.Core.List.{List, [], ◌∷◌, ◌++◌}
use Prim.Native.Nat.{ℕ, suc, ◌+◌, ◌-◌, ◌≤◌, ◌<◌}
use native.Mathlib.Omega.{arith}
use lib.ListN.{length, length-append, get_or, drop, length-drop, drop_of_length-le}
use lib.Seq.{drop-drop, drop-append_seam, drop-cons}
use Rattle.forms.proofs.Bools.{by_cases}
use Rattle.forms.specs.Form.{Class, has, Form, pure, byte, pair, alt, many, fmap, bound}
use Rattle.forms.specs.Scan.{Scan, Got, Stop, on_got, nullable, first_set, begins, scan, onward, over}
use Rattle.forms.specs.Pieces.{preceded, terminated}
use Rattle.forms.specs.Place.{Read, Parsed, OutOfRange, Failed, within, placed, read_at, map_read, out_of_range_at, both_read, bounded}
use Rattle.forms.proofs.Sound.{sound_loose}
use Rattle.forms.proofs.Places.{many_unroll, many_over}

-- what is left at a place is the text from the place that its length tells
left_at : (s : List ℕ) (i : ℕ) (x r : List ℕ) → i ≤ length s → drop i s ≡ x ++ r → (drop (length s - length r) s ≡ r) × (length s - length r ≤ length s)
left_at s i x r h d =
    let l : length s - i ≡ length x + length r = sym (length-drop i s) ∙ ap length d ∙ length-append x r in
    let e : length s - length r ≡ i + length x = omega (arith, l, h) in
    (rw e (sym (drop-drop (length x) i s) ∙ rw d (drop-append_seam x r)), omega arith)

place_at : (s : List ℕ) (i : ℕ) → i ≤ length s → length s - length (drop i s) ≡ i
place_at s i h = omega (arith, h, length-drop i s)

module _ {A B C : Type 0} (q : A → B → C) where
  join_one : (s : List ℕ) (a : A) (m : List ℕ) (o u : List (List ℕ)) (r : Scan B) (k : ℕ → Read B) → k (length s - length m) ≡ placed s u r
      → placed s (o ++ u) (on_got r (λ b t. Got (q a b) t)) ≡ both_read q (within s o a m) k
  join_one s a m [] [] (Got b t) k e = rw e
  join_one s a m [] (y ∷ u) (Got b t) k e = rw e
  join_one s a m [] u (Stop t) k e = rw e
  join_one s a m (x ∷ o) [] (Got b t) k e = rw e
  join_one s a m (x ∷ o) (y ∷ u) (Got b t) k e = rw e
  join_one s a m (x ∷ o) u (Stop t) k e = rw e

  join_two : (f : Form A) (g : Form B) (s : List ℕ) (i : ℕ) → i ≤ length s → (r : Scan A) → scan f (drop i s) ≡ r
      → placed s (over f (drop i s) ++ onward r (λ a m. over g m)) (on_got r (λ a m. on_got (scan g m) (λ b t. Got (q a b) t)))
      ≡ both_read q (placed s (over f (drop i s)) r) (λ n. read_at g s n)
  unfolding read_at
  join_two f g s i h (Got a m) e =
      let x = sound_loose f (drop i s) a m e in
      let d = left_at s i x.0 m h x.1 in
      join_one s a m (over f (drop i s)) (over g m) (scan g m) (λ n. read_at g s n) (rw d.0)
  join_two f g s i h (Stop m) e = refl

-- one after the other
pub pair_at : {A B : Type 0} (f : Form A) (g : Form B) (s : List ℕ) (i : ℕ) → i ≤ length s
    → read_at (pair f g) s i ≡ both_read (λ (x : A) (y : B). (x, y)) (read_at f s i) (λ n. read_at g s n)
unfolding read_at scan over
pair_at {A} {B} f g s i h = join_two (λ (x : A) (y : B). (x, y)) f g s i h (scan f (drop i s)) refl

map_one : {A B : Type 0} (h : A → B) (s : List ℕ) (o : List (List ℕ)) (r : Scan A) → placed s o (on_got r (λ a t. Got (h a) t)) ≡ map_read h (placed s o r)
map_one h s [] (Got a r) = refl
map_one h s (x ∷ o) (Got a r) = refl
map_one h s o (Stop r) = refl

pub fmap_at : {A B : Type 0} (h : A → B) (f : Form A) (s : List ℕ) (i : ℕ) → read_at (fmap h f) s i ≡ map_read h (read_at f s i)
unfolding read_at scan over
fmap_at h f s i = map_one h s (over f (drop i s)) (scan f (drop i s))

pub alt_at : {A : Type 0} (f g : Form A) (s : List ℕ) (i : ℕ)
    → read_at (alt f g) s i ≡ (if begins (first_set f) (drop i s) then (read_at f s i) else (read_at g s i))
unfolding read_at scan over
alt_at f g s i = by_cases (begins (first_set f) (drop i s)) (λ t. rw t) (λ t. rw t)

pub pure_at : {A : Type 0} (a : A) (s : List ℕ) (i : ℕ) → i ≤ length s → read_at (pure a) s i ≡ Parsed a i
unfolding read_at scan over
pure_at a s i h = ap (Parsed a) (place_at s i h)

bound_one : {A : Type 0} (t : A → Bool) (j : A → ℕ) (s l : List ℕ) (o : List (List ℕ)) (r : Scan A)
    → placed s (o ++ onward r (λ a m. (if t a then [] else (drop (j a) l ∷ [])))) r ≡ bounded t (λ a. length s - length (drop (j a) l)) (placed s o r)
bound_one t j s l [] (Got a r) = by_cases (t a) (λ x. rw x) (λ x. rw x)
bound_one t j s l (x ∷ o) (Got a r) = refl
bound_one t j s l o (Stop r) = refl

pub bound_at : {A : Type 0} (t : A → Bool) (j : A → ℕ) (f : Form A) (s : List ℕ) (i : ℕ)
    → read_at (bound t j f) s i ≡ bounded t (λ a. length s - length (drop (j a) (drop i s))) (read_at f s i)
unfolding read_at scan over
bound_at t j f s i = bound_one t j s (drop i s) (over f (drop i s)) (scan f (drop i s))

pub byte_at : (c : Class) (s : List ℕ) (i : ℕ) → i < length s → read_at (byte c) s i ≡ (if has c (get_or s i 0) then (Parsed (get_or s i 0) (i + 1)) else (Failed i))
unfolding read_at scan over
byte_at c s i h =
    let e1 : length s - length (drop (suc i) s) ≡ i + 1 = omega (arith, h, length-drop (suc i) s) in
    let e2 : length s - suc (length (drop (suc i) s)) ≡ i = omega (arith, h, length-drop (suc i) s) in
    rw (drop-cons s i 0 h) (by_cases (has c (get_or s i 0)) (λ t. rw (t, e1)) (λ t. rw (t, e2)))

pub byte_end : (c : Class) (s : List ℕ) → read_at (byte c) s (length s) ≡ Failed (length s)
unfolding read_at scan over
byte_end c s = rw (drop_of_length-le s {i = length s} (omega arith)) (let e : length s - 0 ≡ length s = omega arith in ap Failed e)

pub mapped_both : {A B C : Type 0} (h : A × B → C) (r : Read A) (k : ℕ → Read B)
    → map_read h (both_read (λ (x : A) (y : B). (x, y)) r k) ≡ both_read (λ (x : A) (y : B). h (x, y)) r k
mapped_both {A} {B} {C} h (Parsed a n) k = by (k n)
  where
    by : (r : Read B) → map_read h (map_read (λ (y : B). (a, y)) r) ≡ map_read (λ (y : B). h (a, y)) r
    by (Parsed b m) = refl
    by (OutOfRange p m) = refl
    by (Failed p) = refl
mapped_both {A} {B} {C} h (OutOfRange p n) k = by (k n)
  where
    by : (r : Read B) → map_read h (out_of_range_at {B = A × B} p r) ≡ out_of_range_at p r
    by (Parsed b m) = refl
    by (OutOfRange q m) = refl
    by (Failed q) = refl
mapped_both h (Failed p) k = refl

module _ {A B : Type 0} (f : Form A) (g : Form B) (s : List ℕ) (i : ℕ) (h : i ≤ length s) where
  pub preceded_at : read_at (preceded f g) s i ≡ both_read (λ (x : A) (y : B). y) (read_at f s i) (λ n. read_at g s n)
  preceded_at = fmap_at (λ (p : A × B). p.1) (pair f g) s i ∙ ap (map_read (λ (p : A × B). p.1)) (pair_at f g s i h)
      ∙ mapped_both (λ (p : A × B). p.1) (read_at f s i) (λ n. read_at g s n)

  pub terminated_at : read_at (terminated f g) s i ≡ both_read (λ (x : A) (y : B). x) (read_at f s i) (λ n. read_at g s n)
  terminated_at = fmap_at (λ (p : A × B). p.0) (pair f g) s i ∙ ap (map_read (λ (p : A × B). p.0)) (pair_at f g s i h)
      ∙ mapped_both (λ (p : A × B). p.0) (read_at f s i) (λ n. read_at g s n)

-- one more, or none
pub many_at : {A : Type 0} (f : Form A) → not (nullable f) ≡ true → (s : List ℕ) (i : ℕ) → i ≤ length s
    → read_at (many f) s i
    ≡ (if begins (first_set f) (drop i s) then (both_read (λ (x : A) (xs : List A). x ∷ xs) (read_at f s i) (λ n. read_at (many f) s n)) else (Parsed [] i))
unfolding read_at
many_at {A} f n s i h =
    rw (many_unroll f n (drop i s), many_over f n (drop i s))
    (by_cases (begins (first_set f) (drop i s))
    (λ t. rw t (join_two (λ (x : A) (xs : List A). x ∷ xs) f (many f) s i h (scan f (drop i s)) refl))
    (λ t. rw (t, place_at s i h)))
