-- How readings go together: a reading of a form is put together from readings of its parts, cursor by cursor.
use mathlib.Core.Path.{◌≡◌, refl, sym, ap, ◌∙◌, subst}
use mathlib.Core.Bool.{Bool, true, false, true≢false}
use mathlib.Core.List.{List}
use Prim.Native.Nat.{ℕ, ◌+◌, ◌-◌, ◌≤◌, ◌<◌}
use native.Mathlib.Omega.{arith}
use lib.ListN.{length, drop, get_or, length-drop}
use Rattle.forms.specs.Form.{Class, has, Form, pure, byte, pair, fmap, bound}
use Rattle.forms.specs.Place.{Read, Parsed, OutOfRange, Failed, read_at, map_read, out_of_range_at, both_read, bounded}
use Rattle.forms.specs.Pieces.{preceded, terminated}
use Rattle.forms.proofs.Bools.{by_cases}
use Rattle.forms.proofs.At.{pair_at, preceded_at, terminated_at, fmap_at, pure_at, byte_at, byte_end, bound_at}
use Rattle.scan_cursors.specs.declared.Cursor.{Cursor}
use Rattle.scan_cursors.specs.declared.Cursor.TheVariants as cursor
use Rattle.scan_cursors.specs.Reads.{read_by, from, out_of_range_by, joined, place_of, Inside, limited_by, Reads}

-- ---- forms that read alike where a cursor stands, inside the text

pub from_at : {A : Type 0} (c : Cursor) (j k : ℕ → Read A) → j (place_of c) ≡ k (place_of c) → from c j ≡ from c k
from_at (cursor.Parsed n) j k e = e
from_at (cursor.OutOfRange p n) j k e = ap (out_of_range_at p) e
from_at (cursor.Failed p) j k e = refl

from_alike : {A : Type 0} (s : List ℕ) (c : Cursor) (j k : ℕ → Read A) → Inside s c → ((n : ℕ) → n ≤ length s → j n ≡ k n) → from c j ≡ from c k
from_alike s c j k i e = from_at c j k (e (place_of c) i)

pub alike_reads : {A : Type 0} {f g : Form A} {s : List ℕ} {c d : Cursor} {v : A} → ((n : ℕ) → n ≤ length s → read_at f s n ≡ read_at g s n)
    → Inside s c → Reads f s c v d → Reads g s c v d
alike_reads {A} {f} {g} {s} {c} e i r = record { reads = r.reads ∙ from_alike s c (λ n. read_at f s n) (λ n. read_at g s n) i e; inside = r.inside }

-- ---- made

mapped-out_of_range : {A B : Type 0} (h : A → B) (p : ℕ) (r : Read A) → map_read h (out_of_range_at {B = A} p r) ≡ out_of_range_at p (map_read h r)
mapped-out_of_range h p (Parsed a n) = refl
mapped-out_of_range h p (OutOfRange q n) = refl
mapped-out_of_range h p (Failed q) = refl

fmap_from : {A B : Type 0} (h : A → B) (f : Form A) (s : List ℕ) (c : Cursor) → map_read h (from c (λ n. read_at f s n)) ≡ from c (λ n. read_at (fmap h f) s n)
fmap_from h f s (cursor.Parsed n) = sym (fmap_at h f s n)
fmap_from h f s (cursor.OutOfRange p n) = mapped-out_of_range h p (read_at f s n) ∙ ap (out_of_range_at p) (sym (fmap_at h f s n))
fmap_from h f s (cursor.Failed p) = refl

mapped_by : {A B : Type 0} (h : A → B) (v : A) (d : Cursor) → map_read h (read_by v d) ≡ read_by (h v) d
mapped_by h v (cursor.Parsed n) = refl
mapped_by h v (cursor.OutOfRange p n) = refl
mapped_by h v (cursor.Failed p) = refl

pub fmap_reads : {A B : Type 0} {f : Form A} {s : List ℕ} {c d : Cursor} {v : A} (h : A → B) → Reads f s c v d → Reads (fmap h f) s c (h v) d
fmap_reads {A} {B} {f} {s} {c} {d} {v} h r =
    record { reads = sym (mapped_by h v d) ∙ ap (map_read h) r.reads ∙ fmap_from h f s c; inside = r.inside }

-- ---- one after the other

out_of_range-mapped : {A B : Type 0} (h : A → B) (p : ℕ) (r : Read A) → out_of_range_at {B = B} p r ≡ map_read h (out_of_range_at {B = A} p r)
out_of_range-mapped h p (Parsed a n) = refl
out_of_range-mapped h p (OutOfRange q n) = refl
out_of_range-mapped h p (Failed q) = refl

by_both : {A B C : Type 0} (h : A → B → C) (v : A) (d : Cursor) (k : ℕ → Read B) → both_read h (read_by v d) k ≡ map_read (h v) (from d k)
by_both h v (cursor.Parsed n) k = refl
by_both h v (cursor.OutOfRange p n) k = out_of_range-mapped (h v) p (k n)
by_both h v (cursor.Failed p) k = refl

out_of_range-both : {A B C : Type 0} (h : A → B → C) (p : ℕ) (r : Read A) (k : ℕ → Read B)
    → out_of_range_at p (both_read h r k) ≡ both_read h (out_of_range_at {B = A} p r) k
out_of_range-both {A} {B} {C} h p (Parsed a n) k = go (k n)
  where
    go : (r : Read B) → out_of_range_at {B = C} p (map_read (h a) r) ≡ out_of_range_at p r
    go (Parsed b m) = refl
    go (OutOfRange q m) = refl
    go (Failed q) = refl
out_of_range-both {A} {B} {C} h p (OutOfRange q n) k = go (k n)
  where
    go : (r : Read B) → out_of_range_at {B = C} p (out_of_range_at {B = C} q r) ≡ out_of_range_at p r
    go (Parsed b m) = refl
    go (OutOfRange u m) = refl
    go (Failed u) = refl
out_of_range-both h p (Failed q) k = refl

from_both : {A B C : Type 0} (h : A → B → C) (c : Cursor) (j : ℕ → Read A) (k : ℕ → Read B)
    → from c (λ n. both_read h (j n) k) ≡ both_read h (from c j) k
from_both h (cursor.Parsed n) j k = refl
from_both h (cursor.OutOfRange p n) j k = out_of_range-both h p (j n) k
from_both h (cursor.Failed p) j k = refl

-- a form that reads as the one and from the end of it the other
both_reads : {A B C : Type 0} {f : Form A} {g : Form B} {s : List ℕ} {c d e : Cursor} {v : A} {w : B} (h : A → B → C) (F : Form C)
    → ((n : ℕ) → n ≤ length s → read_at F s n ≡ both_read h (read_at f s n) (λ m. read_at g s m))
    → Inside s c → Reads f s c v d → Reads g s d w e → Reads F s c (h v w) e
both_reads {A} {B} {C} {f} {g} {s} {c} {d} {e} {v} {w} h F at i r q =
    record {
      reads =
          sym (mapped_by (h v) w e) ∙ ap (map_read (h v)) q.reads ∙ sym (by_both h v d (λ m. read_at g s m))
          ∙ ap (λ (x : Read A). both_read h x (λ m. read_at g s m)) r.reads
          ∙ sym (from_both h c (λ n. read_at f s n) (λ m. read_at g s m))
          ∙ sym (from_alike s c (λ n. read_at F s n) (λ n. both_read h (read_at f s n) (λ m. read_at g s m)) i at);
      inside = q.inside;
    }

module _ {A B : Type 0} {f : Form A} {g : Form B} {s : List ℕ} {c d e : Cursor} {v : A} {w : B} (i : Inside s c)
    (r : Reads f s c v d) (q : Reads g s d w e) where
  pub pair_reads : Reads (pair f g) s c (v, w) e
  pair_reads = both_reads (λ (x : A) (y : B). (x, y)) (pair f g) (λ n h. pair_at f g s n h) i r q

  pub preceded_reads : Reads (preceded f g) s c w e
  preceded_reads = both_reads (λ (x : A) (y : B). y) (preceded f g) (λ n h. preceded_at f g s n h) i r q

  pub terminated_reads : Reads (terminated f g) s c v e
  terminated_reads = both_reads (λ (x : A) (y : B). x) (terminated f g) (λ n h. terminated_at f g s n h) i r q

-- ---- nothing

pub pure_reads : {A : Type 0} (a : A) (s : List ℕ) (c : Cursor) → Inside s c → Reads (pure a) s c a c
pure_reads a s (cursor.Parsed n) h = record { reads = sym (pure_at a s n h); inside = h }
pure_reads a s (cursor.OutOfRange p n) h = record { reads = sym (ap (out_of_range_at p) (pure_at a s n h)); inside = h }
pure_reads a s (cursor.Failed p) h = record { reads = refl; inside = h }

-- ---- a byte of a class

module _ (c : Class) (s : List ℕ) (at : ℕ) where
  pub byte_reads : at < length s → has c (get_or s at 0) ≡ true → Reads (byte c) s (cursor.Parsed at) (get_or s at 0) (cursor.Parsed (at + 1))
  byte_reads h e = record { reads = sym (byte_at c s at h ∙ rw e); inside = omega arith }

  pub byte_stops : at < length s → has c (get_or s at 0) ≡ false → (v : ℕ) → Reads (byte c) s (cursor.Parsed at) v (cursor.Failed at)
  byte_stops h e v = record { reads = sym (byte_at c s at h ∙ rw e); inside = omega arith }

  pub byte_ends : at ≡ length s → (v : ℕ) → Reads (byte c) s (cursor.Parsed at) v (cursor.Failed at)
  byte_ends h v = record { reads = sym (rw h (byte_end c s)); inside = omega arith }

-- ---- a bound on the value, whose place is the first byte

module _ {A : Type 0} (t : A → Bool) (s : List ℕ) where
  by_limit : (v : A) (at : ℕ) (d : Cursor) → read_by v (limited_by (t v) at d) ≡ bounded t (λ a. at) (read_by v d)
  by_limit v at (cursor.Parsed n) = by_cases (t v) (λ x. rw x) (λ x. rw x)
  by_limit v at (cursor.OutOfRange p n) = refl
  by_limit v at (cursor.Failed p) = refl

  limit_inside : (b : Bool) (at : ℕ) (d : Cursor) → Inside s d → Inside s (limited_by b at d)
  limit_inside true at (cursor.Parsed n) i = i
  limit_inside false at (cursor.Parsed n) i = i
  limit_inside b at (cursor.OutOfRange p n) i = i
  limit_inside b at (cursor.Failed p) i = i

  first_at : (f : Form A) (at : ℕ) → at ≤ length s → read_at (bound t (λ (a : A). 0) f) s at ≡ bounded t (λ a. at) (read_at f s at)
  first_at f at h =
      let q : length s - length (drop at s) ≡ at = omega (arith, length-drop at s, h) in
      bound_at t (λ (a : A). 0) f s at ∙ rw q

  bounded-out_of_range : (at p : ℕ) (r : Read A) → bounded t (λ a. at) (out_of_range_at {B = A} p r) ≡ out_of_range_at p (bounded t (λ a. at) r)
  bounded-out_of_range at p (Parsed a n) = by_cases (t a) (λ x. rw x) (λ x. rw x)
  bounded-out_of_range at p (OutOfRange q n) = refl
  bounded-out_of_range at p (Failed q) = refl

  limit_from : (f : Form A) (c : Cursor) → Inside s c
      → bounded t (λ a. place_of c) (from c (λ n. read_at f s n)) ≡ from c (λ n. read_at (bound t (λ (a : A). 0) f) s n)
  limit_from f (cursor.Parsed n) i = sym (first_at f n i)
  limit_from f (cursor.OutOfRange p n) i = bounded-out_of_range n p (read_at f s n) ∙ ap (out_of_range_at p) (sym (first_at f n i))
  limit_from f (cursor.Failed p) i = refl

pub limit_reads : {A : Type 0} {f : Form A} {s : List ℕ} {c d : Cursor} {v : A} (t : A → Bool) → Inside s c → Reads f s c v d
    → Reads (bound t (λ (a : A). 0) f) s c v (limited_by (t v) (place_of c) d)
limit_reads {A} {f} {s} {c} {d} {v} t i r =
    record {
      reads = by_limit t s v (place_of c) d ∙ ap (bounded t (λ a. place_of c)) r.reads ∙ limit_from t s f c i;
      inside = limit_inside t s (t v) (place_of c) d r.inside;
    }

-- a bound inside a narrower one at the same place plays no part
module _ {A : Type 0} {t u : A → Bool} (narrower : (a : A) → t a ≡ true → u a ≡ true) (s : List ℕ) where
  narrow_bounded : (at : ℕ) (r : Read A) → bounded t (λ a. at) (bounded u (λ a. at) r) ≡ bounded t (λ a. at) r
  narrow_bounded at (Parsed a n) =
      by_cases (u a) (λ e. rw e) (λ e. by_cases (t a) (λ k. absurd (true≢false (sym (narrower a k) ∙ e))) (λ k. rw (e, k)))
  narrow_bounded at (OutOfRange p n) = refl
  narrow_bounded at (Failed p) = refl

  narrow_at : (f : Form A) (at : ℕ) → at ≤ length s
      → read_at (bound t (λ (a : A). 0) (bound u (λ (a : A). 0) f)) s at ≡ read_at (bound t (λ (a : A). 0) f) s at
  narrow_at f at h =
      first_at t s (bound u (λ (a : A). 0) f) at h ∙ ap (bounded t (λ a. at)) (first_at u s f at h) ∙ narrow_bounded at (read_at f s at) ∙ sym (first_at t s f at h)

pub narrow_reads : {A : Type 0} {f : Form A} {s : List ℕ} {c d : Cursor} {v : A} {t u : A → Bool} → ((a : A) → t a ≡ true → u a ≡ true) → Inside s c
    → Reads (bound u (λ (a : A). 0) f) s c v d → Reads (bound t (λ (a : A). 0) f) s c v (limited_by (t v) (place_of c) d)
narrow_reads {A} {f} {s} {c} {d} {v} {t} {u} narrower i r = alike_reads (λ n h. narrow_at narrower s f n h) i (limit_reads t i r)

-- ---- a scanner from a place on makes one from any cursor on

out_of_range-by : {A : Type 0} (p : ℕ) (v : A) (d : Cursor) → read_by v (out_of_range_by p d) ≡ out_of_range_at {B = A} p (read_by v d)
out_of_range-by p v (cursor.Parsed n) = refl
out_of_range-by p v (cursor.OutOfRange q n) = refl
out_of_range-by p v (cursor.Failed q) = refl

out_of_range-inside : (s : List ℕ) (p : ℕ) (d : Cursor) → Inside s d → Inside s (out_of_range_by p d)
out_of_range-inside s p (cursor.Parsed n) i = i
out_of_range-inside s p (cursor.OutOfRange q n) i = i
out_of_range-inside s p (cursor.Failed q) i = i

join_reads : {A : Type 0} {f : Form A} {s : List ℕ} (c : Cursor) {d : Cursor} {v : A} → Inside s c → Reads f s (cursor.Parsed (place_of c)) v d
    → Reads f s c v (joined c d)
join_reads (cursor.Parsed n) i r = r
join_reads {A} {f} {s} (cursor.OutOfRange p n) {d} {v} i r =
    record { reads = out_of_range-by p v d ∙ ap (out_of_range_at p) r.reads; inside = out_of_range-inside s p d r.inside }
join_reads (cursor.Failed p) i r = record { reads = refl; inside = i }

-- the same by the numbers that the code has
pub step_reads : {A : Type 0} {f : Form A} {s : List ℕ} {c d e : Cursor} {v : A} {at : ℕ} → Inside s c → at ≡ place_of c → e ≡ joined c d
    → Reads f s (cursor.Parsed at) v d → Reads f s c v e
step_reads {A} {f} {s} {c} {d} {e} {v} i p j r =
    subst (λ (x : Cursor). Reads f s c v x) (sym j) (join_reads c i (subst (λ (n : ℕ). Reads f s (cursor.Parsed n) v d) p r))

-- ---- where reading does not go on any value will do

pub failed_reads : {A : Type 0} (f : Form A) (s : List ℕ) (p : ℕ) (v : A) → p ≤ length s → Reads f s (cursor.Failed p) v (cursor.Failed p)
failed_reads f s p v h = record { reads = refl; inside = h }

pub failed_any : {A : Type 0} {f : Form A} {s : List ℕ} {c : Cursor} {p : ℕ} {v : A} → Reads f s c v (cursor.Failed p) → (w : A)
    → Reads f s c w (cursor.Failed p)
failed_any r w = record { reads = r.reads; inside = r.inside }

pub out_of_range-any : {A : Type 0} {f : Form A} {s : List ℕ} {c : Cursor} {p n : ℕ} {v : A} → Reads f s c v (cursor.OutOfRange p n) → (w : A)
    → Reads f s c w (cursor.OutOfRange p n)
out_of_range-any r w = record { reads = r.reads; inside = r.inside }
