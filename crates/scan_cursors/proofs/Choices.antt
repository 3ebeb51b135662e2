-- One byte chooses between two forms, from any cursor on.
use mathlib.Core.Path.{◌≡◌, refl, sym, ap, ◌∙◌}
use mathlib.Core.Bool.{Bool, true, false, ◌||◌}
use mathlib.Core.List.{List, [], ◌∷◌, ◌++◌}
use Prim.Native.Nat.{ℕ}
use lib.ListN.{drop}
use Rattle.forms.specs.Bytes.{between}
use Rattle.forms.specs.Form.{Class, has, Form, alt}
use Rattle.forms.specs.Scan.{first_set, begins}
use Rattle.forms.specs.Place.{read_at, out_of_range_at}
use Rattle.forms.proofs.Bools.{by_cases}
use Rattle.forms.proofs.At.{alt_at}
use Rattle.scan_cursors.specs.declared.Cursor.{Cursor}
use Rattle.scan_cursors.specs.declared.Cursor.TheVariants.{Parsed, OutOfRange, Failed}
use Rattle.scan_cursors.specs.Reads.{from, Inside, next_in, Reads}
use Rattle.scan_cursors.proofs.Readings.{alike_reads}

-- ---- a byte is of two classes together if it is of either

or_assoc : (a b c : Bool) → (a || (b || c)) ≡ ((a || b) || c)
or_assoc true b c = refl
or_assoc false b c = refl

has_either : (c d : Class) (b : ℕ) → has (c ++ d) b ≡ (has c b || has d b)
unfolding has
has_either [] d b = refl
has_either (r ∷ c) d b = rw (has_either c d b) (or_assoc (between r.0 r.1 b) (has c b) (has d b))

begins_either : (c d : Class) (l : List ℕ) → begins (c ++ d) l ≡ (begins c l || begins d l)
begins_either c d [] = refl
begins_either c d (b ∷ l) = has_either c d b

pub begins_first : (c d : Class) (l : List ℕ) → begins c l ≡ true → true ≡ begins (c ++ d) l
begins_first c d l e = rw (begins_either c d l, e)

pub begins_second : (c d : Class) (l : List ℕ) {x : Bool} → begins c l ≡ false → x ≡ begins d l → x ≡ begins (c ++ d) l
begins_second c d l e f = rw (begins_either c d l, e) f

-- ---- the byte of a test decides

module _ {A : Type 0} (f g : Form A) (s : List ℕ) where
  first_at : (n : ℕ) → begins (first_set f) (drop n s) ≡ true → read_at f s n ≡ read_at (alt f g) s n
  first_at n e = sym (alt_at f g s n ∙ rw e)

  first_from : (c : Cursor) → next_in (first_set f) s c ≡ true → from c (λ n. read_at f s n) ≡ from c (λ n. read_at (alt f g) s n)
  first_from (Parsed n) e = first_at n e
  first_from (OutOfRange p n) e = ap (out_of_range_at p) (first_at n e)
  first_from (Failed p) e = refl

  second_at : (n : ℕ) → begins (first_set f) (drop n s) ≡ false → read_at g s n ≡ read_at (alt f g) s n
  second_at n e = sym (alt_at f g s n ∙ rw e)

  second_from : (c : Cursor) → next_in (first_set f) s c ≡ false → from c (λ n. read_at g s n) ≡ from c (λ n. read_at (alt f g) s n)
  second_from (Parsed n) e = second_at n e
  second_from (OutOfRange p n) e = ap (out_of_range_at p) (second_at n e)
  second_from (Failed p) e = refl

module _ {A : Type 0} {f g : Form A} {s : List ℕ} {c d : Cursor} {v : A} {t : Bool} where
  pub first_reads : t ≡ next_in (first_set f) s c → t ≡ true → Reads f s c v d → Reads (alt f g) s c v d
  first_reads e y r = record { reads = r.reads ∙ first_from f g s c (sym e ∙ y); inside = r.inside }

  pub second_reads : t ≡ next_in (first_set f) s c → t ≡ false → Reads g s c v d → Reads (alt f g) s c v d
  second_reads e y r = record { reads = r.reads ∙ second_from f g s c (sym e ∙ y); inside = r.inside }

  -- and back: where the byte decides, the reading is that of the one form
  pub first_told : t ≡ next_in (first_set f) s c → t ≡ true → Reads (alt f g) s c v d → Reads f s c v d
  first_told e y r = record { reads = r.reads ∙ sym (first_from f g s c (sym e ∙ y)); inside = r.inside }

  pub second_told : t ≡ next_in (first_set f) s c → t ≡ false → Reads (alt f g) s c v d → Reads g s c v d
  second_told e y r = record { reads = r.reads ∙ sym (second_from f g s c (sym e ∙ y)); inside = r.inside }

-- ---- three in a row are chosen from the left

module _ {A : Type 0} (f g h : Form A) (s : List ℕ) where
  row_at : (n : ℕ) → read_at (alt f (alt g h)) s n ≡ read_at (alt (alt f g) h) s n
  row_at n =
      alt_at f (alt g h) s n
      ∙ by_cases (begins (first_set f) (drop n s))
      (λ t. rw t (sym (alt_at (alt f g) h s n ∙ rw (begins_either (first_set f) (first_set g) (drop n s), t) (alt_at f g s n ∙ rw t))))
      (λ t. rw t (alt_at g h s n ∙ sym (alt_at (alt f g) h s n ∙ rw (begins_either (first_set f) (first_set g) (drop n s), t, alt_at f g s n, t))))

pub row_reads : {A : Type 0} {f g h : Form A} {s : List ℕ} {c d : Cursor} {v : A} → Inside s c → Reads (alt f (alt g h)) s c v d
    → Reads (alt (alt f g) h) s c v d
row_reads {A} {f} {g} {h} {s} i r = alike_reads (λ n l. row_at f g h s n) i r
