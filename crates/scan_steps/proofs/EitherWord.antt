-- Either of two words: the first letter of the one decides, whatever the words stand for.
use mathlib.Core.Path.{◌≡◌, sym, ap, ◌∙◌}
use mathlib.Core.Bool.{Bool, true, false}
use mathlib.Core.List.{List, [], ◌∷◌, append-nil}
use Prim.Native.Nat.{ℕ, ◌≤◌}
use native.Mathlib.Omega.{arith}
use lib.ListN.{length, get_or}
use Rattle.std.specs.Prelude.{if◌then◌else◌}
use Rattle.forms.specs.Form.{Class}
use Rattle.forms.specs.Scan.{first_set}
use Rattle.forms.specs.Pieces.{or, keyword}
use Rattle.scan_bytes.specs.Classes.{case_class}
use Rattle.scan_cursors.specs.declared.Cursor.{Cursor}
use Rattle.scan_cursors.specs.Reads.{next_in, Reads}
use Rattle.scan_cursors.proofs.Choices.{first_reads, second_reads}

first_letter : {A : Type 0} (w : List ℕ) (a : A) → 1 ≤ length w → case_class (get_or w 0 0) ≡ first_set (keyword w a)
first_letter [] a h = absurd (omega (arith, h))
first_letter (y ∷ w) a h = sym (append-nil (case_class y))

letter : {A : Type 0} (w s : List ℕ) (a : A) (c : Cursor) {t : Bool} → 1 ≤ length w → t ≡ next_in (case_class (get_or w 0 0)) s c
    → t ≡ next_in (first_set (keyword w a)) s c
letter w s a c h e = e ∙ ap (λ (k : Class). next_in k s c) (first_letter w a h)

module _ {A : Type 0} (w u : List ℕ) (a b : A) {s : List ℕ} {c d : Cursor} {v : A} {t : Bool} (h : 1 ≤ length w)
    (e : t ≡ next_in (case_class (get_or w 0 0)) s c) where
  pub one_reads : t ≡ true → Reads (keyword w a) s c v d → Reads (or (keyword w a) (keyword u b)) s c v d
  one_reads y r = first_reads (letter w s a c h e) y r

  pub other_reads : t ≡ false → Reads (keyword u b) s c v d → Reads (or (keyword w a) (keyword u b)) s c v d
  other_reads y r = second_reads (letter w s a c h e) y r

-- which of the two it is, where it is told by a test
pub told : {x : Bool} (n : Bool) → x ≡ (if n then true else false) → x ≡ n
told true e = e
told false e = e
