-- An option is put together: one or more spaces, the value, any spaces and `;`; and a part after an optional comma.
use mathlib.Core.Path.{◌≡◌}
use mathlib.Core.Bool.{Bool, true, false}
use mathlib.Core.List.{List, [], ◌∷◌}
use Prim.Native.Nat.{ℕ, ◌≤◌}
use lib.ListN.{length}
use Rattle.forms.specs.Form.{Form, pure}
use Rattle.forms.specs.Pieces.{preceded, literal}
use Rattle.definitions.specs.OptionValues.{OptionValue}
use Rattle.definitions.specs.Forms.{spaces, gap, closed, valued, comma}
use Rattle.scan_cursors.specs.declared.Cursor.{Cursor}
use Rattle.scan_cursors.specs.declared.Cursor.TheVariants.{Parsed}
use Rattle.scan_cursors.specs.Reads.{Inside, next_in, Reads, Skips}
use Rattle.scan_cursors.proofs.Readings.{preceded_reads, terminated_reads, pure_reads}
use Rattle.scan_cursors.proofs.Choices.{first_reads, second_reads}

-- from the gap's end b the value is read up to c, and from there the end of the option
pub valued_reads : {f : Form OptionValue} {s : List ℕ} {at : ℕ} {v : OptionValue} {b c d : Cursor} → at ≤ length s → Skips gap s (Parsed at) b → Reads f s b v c
    → Skips (preceded spaces (literal 59)) s c d → Reads (valued f) s (Parsed at) v d
valued_reads h g r q = preceded_reads h g.1 (terminated_reads g.1.inside r q.1)

pub bare_reads : {s : List ℕ} {at : ℕ} {d : Cursor} (v : OptionValue) → at ≤ length s → Skips (preceded spaces (literal 59)) s (Parsed at) d
    → Reads (closed (pure v)) s (Parsed at) v d
bare_reads {s} {at} v h q = terminated_reads h (pure_reads v s (Parsed at) h) q.1

-- after an optional comma
module _ {A : Type 0} {f : Form A} {s : List ℕ} {c d e : Cursor} {v : A} {t : Bool} (a : A) (i : Inside s c) where
  pub comma_reads : t ≡ next_in ((44, 44) ∷ []) s c → t ≡ true → Reads (literal 44) s c 44 d → Reads f s d v e → Reads (comma a f) s c v e
  comma_reads n y r q = first_reads n y (preceded_reads i r q)

pub no_comma : {A : Type 0} {f : Form A} {s : List ℕ} {c : Cursor} {t : Bool} (a : A) → Inside s c → t ≡ next_in ((44, 44) ∷ []) s c → t ≡ false
    → Reads (comma a f) s c a c
no_comma {A} {f} {s} {c} a i n y = second_reads n y (pure_reads a s c i)
