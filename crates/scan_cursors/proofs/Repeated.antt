-- A form read any number of times, by `some` and `many`: a value that is read leads on to what follows it, and where no further value begins the reading ends.
use mathlib.Core.Path.{◌≡◌, refl, sym, ap, ◌∙◌, subst}
use mathlib.Core.Bool.{true, false, not}
use mathlib.Core.List.{List, [], ◌∷◌, ◌++◌, append_assoc, append-nil}
use Prim.Native.Nat.{ℕ, ◌≤◌}
use lib.ListN.{length, drop}
use Rattle.forms.specs.Form.{Form, pair, many}
use Rattle.forms.specs.Scan.{nullable, first_set, begins}
use Rattle.forms.specs.Place.{read_at, map_read, both_read}
use Rattle.forms.specs.Pieces.{some}
use Rattle.forms.proofs.At.{pair_at, fmap_at, many_at, mapped_both}
use Rattle.scan_cursors.specs.declared.Cursor.{Cursor}
use Rattle.scan_cursors.specs.declared.Cursor.TheVariants.{Parsed, OutOfRange, Failed}
use Rattle.scan_cursors.specs.Reads.{read_by, from, place_of, Inside, Reads}
use Rattle.scan_cursors.proofs.Readings.{from_at, fmap_reads, pair_reads, failed_reads}

module _ {A : Type 0} (f : Form A) (full : not (nullable f) ≡ true) (s : List ℕ) where
  some_at : (n : ℕ) → n ≤ length s
      → read_at (some f) s n ≡ both_read (λ (x : A) (xs : List A). x ∷ xs) (read_at f s n) (λ m. read_at (many f) s m)
  some_at n h =
      fmap_at (λ (p : A × List A). p.0 ∷ p.1) (pair f (many f)) s n
      ∙ ap (map_read (λ (p : A × List A). p.0 ∷ p.1)) (pair_at f (many f) s n h)
      ∙ mapped_both (λ (p : A × List A). p.0 ∷ p.1) (read_at f s n) (λ m. read_at (many f) s m)

  -- where a value begins, any number of them is one or more
  begun_at : (n : ℕ) → n ≤ length s → begins (first_set f) (drop n s) ≡ true → read_at (some f) s n ≡ read_at (many f) s n
  begun_at n h t = some_at n h ∙ sym (many_at f full s n h ∙ rw t)

  many_begun : (c : Cursor) {d : Cursor} {vs : List A} → Inside s c → begins (first_set f) (drop (place_of c) s) ≡ true → Reads (some f) s c vs d
      → Reads (many f) s c vs d
  many_begun c h t r =
      record {
        reads = r.reads ∙ from_at c (λ n. read_at (some f) s n) (λ n. read_at (many f) s n) (begun_at (place_of c) h t);
        inside = r.inside;
      }

  some_of : {c d e : Cursor} {v : A} {vs : List A} → Inside s c → Reads f s c v d → Reads (many f) s d vs e → Reads (some f) s c (v ∷ vs) e
  some_of h r q = fmap_reads (λ (p : A × List A). p.0 ∷ p.1) (pair_reads h r q)

  -- one more
  many_on : (c : Cursor) {d e : Cursor} {v : A} {vs : List A} → Inside s c → begins (first_set f) (drop (place_of c) s) ≡ true → Reads f s c v d
      → Reads (many f) s d vs e → Reads (many f) s c (v ∷ vs) e
  many_on c h t r q = many_begun c h t (some_of h r q)

  -- no more
  none_from : (c : Cursor) → Inside s c → begins (first_set f) (drop (place_of c) s) ≡ false → read_by {A = List A} [] c ≡ from c (λ n. read_at (many f) s n)
  none_from (Parsed n) h t = sym (many_at f full s n h ∙ rw t)
  none_from (OutOfRange p n) h t = sym (rw (many_at f full s n h, t))
  none_from (Failed p) h t = refl

  pub many_out : (c : Cursor) → Inside s c → begins (first_set f) (drop (place_of c) s) ≡ false → Reads (many f) s c [] c
  many_out c h t = record { reads = none_from c h t; inside = h }

  -- what is still to come of one or more
  pub record Some (at : ℕ) (vs : List A) (here : ℕ) : Type 0 where
    pub inside : here ≤ length s
    pub rest : (ws : List A) (d : Cursor) → Reads (some f) s (Parsed here) ws d → Reads (some f) s (Parsed at) (vs ++ ws) d

  -- what is still to come of any number
  pub record Many (c0 : Cursor) (vs : List A) (c : Cursor) : Type 0 where
    pub inside : Inside s c
    pub rest : (ws : List A) (d : Cursor) → Reads (many f) s c ws d → Reads (many f) s c0 (vs ++ ws) d

module _ {A : Type 0} (f : Form A) (full : not (nullable f) ≡ true) (s : List ℕ) where
  pub some_start : (at : ℕ) → at ≤ length s → Some f full s at [] at
  some_start at h = record { inside = h; rest = λ ws d r. r }

  module _ {at here : ℕ} {vs : List A} {v : A} (u : Some f full s at vs here) where
    pub some_on : {n : ℕ} → Reads f s (Parsed here) v (Parsed n) → begins (first_set f) (drop n s) ≡ true → Some f full s at (vs ++ (v ∷ [])) n
    some_on {n} r t =
        record {
          inside = r.inside;
          rest = λ ws d q. rw append_assoc (u.rest (v ∷ ws) d (some_of f full s u.inside r (many_begun f full s (Parsed n) r.inside t q)));
        }

    pub some_last : {n : ℕ} → Reads f s (Parsed here) v (Parsed n) → begins (first_set f) (drop n s) ≡ false
        → Reads (some f) s (Parsed at) (vs ++ (v ∷ [])) (Parsed n)
    some_last {n} r t = u.rest (v ∷ []) (Parsed n) (some_of f full s u.inside r (many_out f full s (Parsed n) r.inside t))

    pub some_stop : {p : ℕ} → Reads f s (Parsed here) v (Failed p) → (ws : List A) → Reads (some f) s (Parsed at) (vs ++ (v ∷ ws)) (Failed p)
    some_stop {p} r ws = u.rest (v ∷ ws) (Failed p) (some_of f full s u.inside r (failed_reads (many f) s p ws r.inside))

  pub many_start : (c : Cursor) → Inside s c → Many f full s c [] c
  many_start c h = record { inside = h; rest = λ ws d r. r }

  module _ {c0 c : Cursor} {vs : List A} (u : Many f full s c0 vs c) where
    pub many_more : {d : Cursor} {v : A} → begins (first_set f) (drop (place_of c) s) ≡ true → Reads f s c v d → Many f full s c0 (vs ++ (v ∷ [])) d
    many_more {d} {v} t r =
        record {
          inside = r.inside;
          rest = λ ws e q. rw append_assoc (u.rest (v ∷ ws) e (many_on f full s c u.inside t r q));
        }

    pub many_end : Reads (many f) s c [] c → Reads (many f) s c0 vs c
    many_end r = subst (λ (l : List A). Reads (many f) s c0 l c) (append-nil vs) (u.rest [] c r)
