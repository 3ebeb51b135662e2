-- `relative` and `little`, and the operators: the next byte tells which of them must stand.
use mathlib.Core.Path.{◌≡◌, refl}
use mathlib.Core.Bool.{Bool, true, false}
use mathlib.Core.List.{List, [], ◌∷◌}
use Prim.Native.Nat.{ℕ}
use Rattle.forms.specs.Bytes.{text}
use Rattle.forms.specs.Pieces.{or, literal_as, keyword}
use Rattle.definitions.specs.declared.table.ByteOperator.{ByteOperator}
use Rattle.forms.proofs.Bools.{by_cases}
use Rattle.definitions.specs.Forms.{comma, byte_comparison, flag_words}
use Rattle.scan_bytes.specs.Classes.{case_class}
use Rattle.scan_cursors.specs.declared.Cursor.{Cursor}
use Rattle.scan_cursors.specs.Reads.{Inside, next_in, Reads}
use Rattle.scan_cursors.proofs.Readings.{alike_reads, fmap_reads, pair_reads}
use Rattle.scan_cursors.proofs.Choices.{first_reads, second_reads, first_told, second_told}
use Rattle.scan_pieces.proofs.Wording.{keyword_at}
use Rattle.read_byte_tests.specs.Parts.{sign_of, operator_next}

-- a word says one thing, whatever a scanner hands on
keyword_says : {A B : Type 0} (w : List ℕ) (a : A) (b : B) {s : List ℕ} {c d : Cursor} {v : A} → Inside s c → Reads (keyword w a) s c v d
    → Reads (keyword w b) s c b d
keyword_says {A} w a b {s} i r = alike_reads (λ n h. keyword_at (λ (x : A). b) w a s n) i (fmap_reads (λ (x : A). b) r)

module _ {s : List ℕ} {c d : Cursor} {t v : Bool} (i : Inside s c) (e : t ≡ next_in (case_class 114) s c)
    (r : Reads (or (keyword (text "relative") true) (keyword (text "little") false)) s c v d) where
  pub relative_reads : {w : Bool} {f : Cursor} → t ≡ true → Reads (comma false (keyword (text "little") true)) s d w f → Reads flag_words s c (true, w) f
  relative_reads y q = first_reads e y (pair_reads i (keyword_says (text "relative") true true i (first_told e y r)) q)

  pub little_reads : t ≡ false → Reads flag_words s c (false, true) d
  little_reads y = second_reads e y (keyword_says (text "little") false (false, true) i (second_told e y r))

-- the byte of the operator that is told is the one that must stand
pub operator_reads : (s : List ℕ) (c : Cursor) {d : Cursor} {v : ByteOperator} → Reads (literal_as (sign_of (operator_next s c)) (operator_next s c)) s c v d
    → Reads byte_comparison s c v d
operator_reads s c r =
    by_cases (next_in ((62, 62) ∷ []) s c)
    (λ g. first_reads refl g (rw g at r))
    (λ g. second_reads refl g
    (by_cases (next_in ((60, 60) ∷ []) s c)
    (λ l. first_reads refl l (rw (g, l) at r))
    (λ l. second_reads refl l
    (by_cases (next_in ((61, 61) ∷ []) s c)
    (λ e. first_reads refl e (rw (g, l, e) at r))
    (λ e. second_reads refl e (rw (g, l, e) at r))))))
