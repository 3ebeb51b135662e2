-- An option without pattern bytes ends no earlier than it began.
use mathlib.Core.Path.{◌≡◌}
use mathlib.Core.Bool.{true}
use mathlib.Core.List.{List}
use Prim.Native.Nat.{ℕ, ◌+◌, ◌≤◌}
use native.Mathlib.Omega.{arith}
use lib.ListN.{length}
use Rattle.forms.specs.Form.{Form}
use Rattle.forms.specs.Scan.{is_ll1}
use Rattle.scan_cursors.specs.declared.Cursor.{Cursor}
use Rattle.scan_cursors.specs.declared.Cursor.TheVariants.{Parsed}
use Rattle.scan_cursors.specs.Reads.{Reads}
use Rattle.scan_cursors.proofs.Onward.{onward, parsed_place}

pub grown_none : {A : Type 0} {f : Form A} {s : List ℕ} {at : ℕ} {v : A} {d : Cursor} → is_ll1 f ≡ true → at ≤ length s → Reads f s (Parsed at) v d
    → (n : ℕ) → d ≡ Parsed n → at + 0 ≤ n
grown_none {d = d} w h r n e = omega (arith, onward w h r, parsed_place d e)
