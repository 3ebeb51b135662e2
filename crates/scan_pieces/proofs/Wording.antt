-- Words: a byte of the word that stands there takes the reading on to the rest of the word, one that does not stops it.
use mathlib.Core.Path.{◌≡◌, refl, sym, ap, ◌∙◌}
use mathlib.Core.Bool.{true, false}
use mathlib.Core.List.{List, [], ◌∷◌}
use Prim.Native.Nat.{ℕ, ◌+◌, ◌≤◌, ◌<◌}
use native.Mathlib.Omega.{arith}
use native.Mathlib.Numerals.{add-one}
use lib.ListN.{length, drop, get_or, drop_of_length-le}
use lib.Seq.{drop-cons}
use Rattle.forms.specs.Form.{fmap}
use Rattle.forms.specs.Scan.{Scan, Got, Stop, on_got, begins, scan, over}
use Rattle.forms.specs.Place.{read_at}
use Rattle.forms.specs.Pieces.{keyword, word, any_case}
use Rattle.forms.proofs.Pieces.{preceded_scan, over_unbounded, free}
use Rattle.scan_cursors.specs.declared.Cursor.{Cursor}
use Rattle.scan_cursors.specs.declared.Cursor.TheVariants.{Parsed, Failed}
use Rattle.scan_bytes.specs.Classes.{case_class}
use Rattle.scan_cursors.specs.Reads.{Inside, Reads}
use Rattle.scan_cursors.proofs.Readings.{alike_reads, fmap_reads, preceded_reads, pure_reads, failed_reads}
use Rattle.scan_pieces.proofs.AtPlace.{byte_begun, byte_none, begins_in}

-- what is still to come of a word after its first i bytes
pub record Word (s : List ℕ) (at : ℕ) (w : List ℕ) (i : ℕ) : Type 0 where
  pub inside : at + i ≤ length s
  pub rest : (d : Cursor) → Reads (word (drop i w)) s (Parsed (at + i)) 0 d → Reads (word w) s (Parsed at) 0 d

module _ (s : List ℕ) (at : ℕ) (w : List ℕ) (i : ℕ) (u : Word s at w i) where
  tail : i < length w → drop i w ≡ get_or w i 0 ∷ drop (i + 1) w
  tail h = rw add-one (drop-cons w i 0 h)

  pub word_on : i < length w → begins (case_class (get_or w i 0)) (drop (at + i) s) ≡ true → Word s at w (i + 1)
  word_on h e =
      let q : at + (i + 1) ≡ at + i + 1 = omega arith in
      record {
        inside = omega (arith, begins_in (case_class (get_or w i 0)) s (at + i) e);
        rest = λ d r. u.rest d (rw (tail h) (preceded_reads u.inside (byte_begun (case_class (get_or w i 0)) s (at + i) e) (rw q at r)));
      }

  pub word_halt : i < length w → begins (case_class (get_or w i 0)) (drop (at + i) s) ≡ false → Reads (word w) s (Parsed at) 0 (Failed (at + i))
  word_halt h e =
      u.rest (Failed (at + i))
      (rw (tail h)
      (preceded_reads u.inside (byte_none (case_class (get_or w i 0)) s (at + i) u.inside e 0)
      (failed_reads (word (drop (i + 1) w)) s (at + i) 0 u.inside)))

  pub word_out : length w ≤ i → i ≤ length w → Reads (word w) s (Parsed at) 0 (Parsed (at + length w))
  word_out h k =
      let e : length w ≡ i = omega arith in
      rw e (u.rest (Parsed (at + i)) (rw (drop_of_length-le w h) (pure_reads 0 s (Parsed (at + i)) u.inside)))

-- ---- what a word says plays no part in how it is scanned

keyword_unbounded : {A : Type 0} (w : List ℕ) (a : A) → free (keyword w a) ≡ true
keyword_unbounded [] a = refl
keyword_unbounded (b ∷ w) a = keyword_unbounded w a

keyword_on : {A B : Type 0} (h : A → B) (w : List ℕ) (a : A) (o : Scan ℕ)
    → ((l : List ℕ) → scan (keyword w (h a)) l ≡ on_got (scan (keyword w a) l) (λ x r. Got (h x) r))
    → on_got o (λ n r. scan (keyword w (h a)) r) ≡ on_got (on_got o (λ n r. scan (keyword w a) r)) (λ x r. Got (h x) r)
keyword_on h w a (Got n r) e = e r
keyword_on h w a (Stop r) e = refl

keyword_scan : {A B : Type 0} (h : A → B) (w : List ℕ) (a : A) (l : List ℕ) → scan (keyword w (h a)) l ≡ on_got (scan (keyword w a) l) (λ x r. Got (h x) r)
unfolding scan
keyword_scan h [] a l = refl
keyword_scan {A} h (b ∷ w) a l =
    preceded_scan (any_case b) (keyword w (h a)) l ∙ keyword_on h w a (scan (any_case b) l) (λ m. keyword_scan h w a m)
    ∙ sym (ap (λ (o : Scan A). on_got o (λ x r. Got (h x) r)) (preceded_scan (any_case b) (keyword w a) l))

pub keyword_at : {A B : Type 0} (h : A → B) (w : List ℕ) (a : A) (s : List ℕ) (i : ℕ) → read_at (fmap h (keyword w a)) s i ≡ read_at (keyword w (h a)) s i
unfolding read_at scan over
keyword_at h w a s i =
    let l = drop i s in
    sym (rw (over_unbounded (keyword w (h a)) (keyword_unbounded w (h a)) l, over_unbounded (keyword w a) (keyword_unbounded w a) l, keyword_scan h w a l))

pub keyword_reads : {A : Type 0} (w : List ℕ) {s : List ℕ} {c d : Cursor} (a : A) → Inside s c → Reads (word w) s c 0 d → Reads (keyword w a) s c a d
keyword_reads w {s} a i r = alike_reads (λ n h. keyword_at (λ (x : ℕ). a) w 0 s n) i (fmap_reads (λ (x : ℕ). a) r)
