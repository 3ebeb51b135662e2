-- Reading goes onward: what is read ends no earlier than it began, and it goes on only where all before it went on.
use mathlib.Core.Path.{◌≡◌, refl, sym, ap, ◌∙◌, subst}
use mathlib.Core.Bool.{Bool, true, false, not}
use mathlib.Core.List.{List, [], ◌∷◌, ◌++◌}
use Prim.Native.Nat.{ℕ, suc, ◌+◌, ◌-◌, ◌≤◌, ◌<◌}
use native.Mathlib.Omega.{arith}
use lib.ListN.{length, drop, length-drop, length-append}
use Rattle.forms.specs.Form.{Class, Form, Means, pair, many}
use Rattle.forms.specs.Scan.{Scan, Got, Stop, scan, over, nullable, is_ll1}
use Rattle.forms.specs.Place.{Read, Parsed, OutOfRange, Failed, placed, read_at, map_read, out_of_range_at}
use Rattle.forms.specs.Pieces.{some}
use Rattle.forms.proofs.Sound.{sound_loose, never}
use Rattle.forms.proofs.Complete.{some_byte, no_empty}
use Rattle.forms.proofs.At.{fmap_at}
use Rattle.forms.proofs.Places.{begun}
use Rattle.scan_cursors.specs.declared.Cursor.{Cursor}
use Rattle.scan_cursors.specs.declared.Cursor.TheVariants as cursor
use Rattle.scan_cursors.specs.Reads.{read_by, from, place_of, Inside, next_in, limited_by, Reads}

-- ---- a reading that goes on began where reading went on

pub came_parsed : {A : Type 0} {f : Form A} {s : List ℕ} {c d : Cursor} {v : A} {n : ℕ} → Reads f s c v d → d ≡ cursor.Parsed n
    → (m : ℕ) × (c ≡ cursor.Parsed m)
came_parsed {A} {f} {s} {c} {d} {v} {n} r e = go c (rw e at r.reads)
  where
    after : (p : ℕ) (q : Read A) → Parsed v n ≡ out_of_range_at {B = A} p q → ◌≡◌ {A = ℕ} 0 1
    after p (Parsed a k) z = cc
    after p (OutOfRange q k) z = cc
    after p (Failed q) z = cc

    go : (b : Cursor) → Parsed v n ≡ from b (λ m. read_at f s m) → (m : ℕ) × (b ≡ cursor.Parsed m)
    go (cursor.Parsed m) z = (m, refl)
    go (cursor.OutOfRange p m) z = never (after p (read_at f s m) z)
    go (cursor.Failed p) z = never (cc)

pub limited_parsed : (b : Bool) (p : ℕ) (d : Cursor) {n : ℕ} → limited_by b p d ≡ cursor.Parsed n → (d ≡ cursor.Parsed n) × (b ≡ true)
limited_parsed true p (cursor.Parsed m) e = (e, refl)
limited_parsed false p (cursor.Parsed m) e = never (cc)
limited_parsed b p (cursor.OutOfRange q m) e = never (cc)
limited_parsed b p (cursor.Failed q) e = never (cc)

pub parsed_place : (d : Cursor) {n : ℕ} → d ≡ cursor.Parsed n → place_of d ≡ n
parsed_place d e = ap place_of e

-- ---- the place never goes back, where one byte decides

place_by : {A : Type 0} → Read A → ℕ
place_by (Parsed v n) = n
place_by (OutOfRange p n) = n
place_by (Failed p) = p

place_by_lem : {A : Type 0} (v : A) (d : Cursor) → place_by (read_by v d) ≡ place_of d
unfolding place_by
place_by_lem v (cursor.Parsed n) = refl
place_by_lem v (cursor.OutOfRange p n) = refl
place_by_lem v (cursor.Failed p) = refl

place-out_of_range : {A : Type 0} (p : ℕ) (r : Read A) → place_by (out_of_range_at {B = A} p r) ≡ place_by r
unfolding place_by
place-out_of_range p (Parsed a n) = refl
place-out_of_range p (OutOfRange q n) = refl
place-out_of_range p (Failed q) = refl

-- what is left of the text from a place on, after something
left_after : (s : List ℕ) (at : ℕ) (x r : List ℕ) → at ≤ length s → drop at s ≡ x ++ r → at + length x ≤ length s - length r
left_after s at x r h e = omega (arith, length-drop at s, ap length e ∙ length-append x r)

onward_at : {A : Type 0} (f : Form A) → is_ll1 f ≡ true → (s : List ℕ) (at : ℕ) → at ≤ length s → at ≤ place_by (read_at f s at)
unfolding read_at place_by
onward_at {A} f w s at h = go (over f (drop at s)) (scan f (drop at s)) refl
  where
    go : (o : List (List ℕ)) (r : Scan A) → scan f (drop at s) ≡ r → at ≤ place_by (placed s o r)
    go [] (Got v r) e = let i = sound_loose f (drop at s) v r e in omega (arith, left_after s at i.0 r h i.1)
    go (x ∷ o) (Got v r) e = let i = sound_loose f (drop at s) v r e in omega (arith, left_after s at i.0 r h i.1)
    go o (Stop r) e = let i = begun f w (drop at s) r e in omega (arith, left_after s at i.0 r h i.3)

onward_from : {A : Type 0} (f : Form A) → is_ll1 f ≡ true → (s : List ℕ) (c : Cursor) → Inside s c → place_of c ≤ place_by (from c (λ n. read_at f s n))
unfolding place_by
onward_from f w s (cursor.Parsed n) h = onward_at f w s n h
onward_from f w s (cursor.OutOfRange p n) h = rw (place-out_of_range p (read_at f s n)) (onward_at f w s n h)
onward_from f w s (cursor.Failed p) h = omega arith

pub onward : {A : Type 0} {f : Form A} {s : List ℕ} {c d : Cursor} {v : A} → is_ll1 f ≡ true → Inside s c → Reads f s c v d → place_of c ≤ place_of d
onward {A} {f} {s} {c} {d} {v} w h r =
    let e : place_by (from c (λ n. read_at f s n)) ≡ place_of d = sym (ap place_by r.reads) ∙ place_by_lem v d in
    rw (sym e) (onward_from f w s c h)

-- ---- what is read lies ahead, by a byte at least where the form has no empty text

abbrev pub Ahead : ℕ → Cursor → Type 0
Ahead i (cursor.Parsed n) = i ≤ n
Ahead i (cursor.OutOfRange p n) = i ≤ n
Ahead i (cursor.Failed p) = 0 ≤ p

module _ {A : Type 0} (f : Form A) (full : not (nullable f) ≡ true) (s : List ℕ) where
  got_ahead : (i : ℕ) → i ≤ length s → (a : A) (m : List ℕ) → scan f (drop i s) ≡ Got a m → i + 1 ≤ length s - length m
  got_ahead i h a m e =
      let x = sound_loose f (drop i s) a m e in
      let b = some_byte x.0 (λ z. no_empty false f full a (subst (λ y. Means false f y a) z x.2)) in
      omega (arith, left_after s i x.0 m h x.1, b)

  module _ (i : ℕ) (h : i ≤ length s) (v : A) where
    placed_ahead : (o : List (List ℕ)) (r : Scan A) → scan f (drop i s) ≡ r → (d : Cursor) → read_by v d ≡ placed s o r → Ahead (i + 1) d
    placed_ahead [] (Got a m) e (cursor.Parsed n) q = let z : n ≡ length s - length m = cc in rw z (got_ahead i h a m e)
    placed_ahead (x ∷ o) (Got a m) e (cursor.Parsed n) q = never (cc)
    placed_ahead [] (Got a m) e (cursor.OutOfRange p n) q = never (cc)
    placed_ahead (x ∷ o) (Got a m) e (cursor.OutOfRange p n) q = let z : n ≡ length s - length m = cc in rw z (got_ahead i h a m e)
    placed_ahead o (Stop m) e (cursor.Parsed n) q = never (cc)
    placed_ahead o (Stop m) e (cursor.OutOfRange p n) q = never (cc)
    placed_ahead o r e (cursor.Failed p) q = omega arith

    -- the same after a number beyond its limit
    out_of_range-ahead : (p : ℕ) (o : List (List ℕ)) (r : Scan A) → scan f (drop i s) ≡ r → (d : Cursor) → read_by v d ≡ out_of_range_at {B = A} p (placed s o r)
        → Ahead (i + 1) d
    out_of_range-ahead p [] (Got a m) e (cursor.Parsed n) q = never (cc)
    out_of_range-ahead p (x ∷ o) (Got a m) e (cursor.Parsed n) q = never (cc)
    out_of_range-ahead p [] (Got a m) e (cursor.OutOfRange u n) q = let z : n ≡ length s - length m = cc in rw z (got_ahead i h a m e)
    out_of_range-ahead p (x ∷ o) (Got a m) e (cursor.OutOfRange u n) q = let z : n ≡ length s - length m = cc in rw z (got_ahead i h a m e)
    out_of_range-ahead p o (Stop m) e (cursor.Parsed n) q = never (cc)
    out_of_range-ahead p o (Stop m) e (cursor.OutOfRange u n) q = never (cc)
    out_of_range-ahead p o r e (cursor.Failed u) q = omega arith

  from_ahead : (c : Cursor) → Inside s c → (v : A) (d : Cursor) → read_by v d ≡ from c (λ n. read_at f s n) → Ahead (place_of c + 1) d
  unfolding read_at
  from_ahead (cursor.Parsed n) h v d q = placed_ahead n h v (over f (drop n s)) (scan f (drop n s)) refl d q
  from_ahead (cursor.OutOfRange p n) h v d q = out_of_range-ahead n h v p (over f (drop n s)) (scan f (drop n s)) refl d q
  from_ahead (cursor.Failed p) h v (cursor.Parsed n) q = never (cc)
  from_ahead (cursor.Failed p) h v (cursor.OutOfRange u n) q = never (cc)
  from_ahead (cursor.Failed p) h v (cursor.Failed u) q = omega arith

pub ahead_more : {A : Type 0} {f : Form A} {s : List ℕ} {c d : Cursor} {v : A} → Inside s c → Reads f s c v d → not (nullable f) ≡ true
    → Ahead (place_of c + 1) d
ahead_more {A} {f} {s} {c} {d} {v} h r full = from_ahead f full s c h v d r.reads

-- how much is left of a text, and nothing where reading stopped
abbrev pub left : List ℕ → Cursor → ℕ
left s (cursor.Parsed n) = suc (length s - n)
left s (cursor.OutOfRange p n) = suc (length s - n)
left s (cursor.Failed p) = 0

left_less : (k : Class) (s : List ℕ) (c d : Cursor) → next_in k s c ≡ true → Inside s d → Ahead (place_of c + 1) d → left s d < left s c
left_less k s (cursor.Parsed n) (cursor.Parsed m) t i a = omega (arith, a, i)
left_less k s (cursor.Parsed n) (cursor.OutOfRange q m) t i a = omega (arith, a, i)
left_less k s (cursor.Parsed n) (cursor.Failed q) t i a = omega arith
left_less k s (cursor.OutOfRange p n) (cursor.Parsed m) t i a = omega (arith, a, i)
left_less k s (cursor.OutOfRange p n) (cursor.OutOfRange q m) t i a = omega (arith, a, i)
left_less k s (cursor.OutOfRange p n) (cursor.Failed q) t i a = omega arith
left_less k s (cursor.Failed p) d t i a = never (cc)

-- less is left after what is read where a byte was next
pub less_left : {A : Type 0} {f : Form A} {s : List ℕ} {c d : Cursor} {v : A} (k : Class) → next_in k s c ≡ true → not (nullable f) ≡ true
    → Inside s c → Reads f s c v d → left s d < left s c
less_left {A} {f} {s} {c} {d} k t full h r = left_less k s c d t r.inside (ahead_more h r full)

-- ---- one or more are at least one

pub some_filled : {A : Type 0} {f : Form A} {s : List ℕ} {c d : Cursor} {vs : List A} {n : ℕ} → Reads (some f) s c vs d → d ≡ cursor.Parsed n
    → 1 ≤ length vs
some_filled {A} {f} {s} {c} {d} {vs} {n} r e =
    let b = came_parsed r e in
    let i : c ≡ cursor.Parsed b.0 = b.1 in
    let z : Parsed vs n ≡ read_at (some f) s b.0 = rw (e, i) at r.reads in
    go (read_at (pair f (many f)) s b.0) (z ∙ fmap_at (λ (p : A × List A). p.0 ∷ p.1) (pair f (many f)) s b.0)
  where
    go : (q : Read (A × List A)) → Parsed vs n ≡ map_read (λ (p : A × List A). p.0 ∷ p.1) q → 1 ≤ length vs
    go (Parsed p k) z = let y : vs ≡ p.0 ∷ p.1 = cc in rw y (omega arith)
    go (OutOfRange p k) z = never (cc)
    go (Failed p) z = never (cc)
