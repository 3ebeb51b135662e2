-- A form without bounds goes on or stops, as a match on its cursor tells.
use mathlib.Core.Path.{◌≡◌, refl}
use mathlib.Core.Bool.{true}
use mathlib.Core.List.{[], List}
use Prim.Native.Nat.{ℕ}
use lib.ListN.{drop}
use Rattle.forms.specs.Form.{Form}
use Rattle.forms.specs.Scan.{Scan, Got, Stop, scan}
use Rattle.forms.specs.Place.{placed, read_at}
use Rattle.forms.proofs.Sound.{never}
use Rattle.forms.proofs.Pieces.{free, over_unbounded}
use Rattle.scan_cursors.specs.declared.Cursor.{Cursor}
use Rattle.scan_cursors.specs.declared.Cursor.TheVariants.{Parsed, OutOfRange, Failed}
use Rattle.scan_cursors.specs.Reads.{read_by, Reads}

never_over : {A : Type 0} {f : Form A} {s : List ℕ} {i p n : ℕ} {v : A} → free f ≡ true → Reads f s (Parsed i) v (OutOfRange p n) → ◌≡◌ {A = ℕ} 0 1
unfolding read_at
never_over {A} {f} {s} {i} {p} {n} {v} w r = go (scan f (drop i s)) (rw (over_unbounded f w (drop i s)) at r.reads)
  where
    go : (o : Scan A) → read_by v (OutOfRange p n) ≡ placed s [] o → ◌≡◌ {A = ℕ} 0 1
    go (Got a m) q = never (cc)
    go (Stop m) q = never (cc)

pub halted : {A : Type 0} {f : Form A} {s : List ℕ} {i : ℕ} {v : A} (d : Cursor) → ((n : ℕ) → d ≡ Parsed n → ⊥) → free f ≡ true
    → Reads f s (Parsed i) v d → (p : ℕ) × (d ≡ Failed p)
halted (Parsed n) k w r = absurd (k n refl)
halted (OutOfRange p n) k w r = never (never_over w r)
halted (Failed p) k w r = (p, refl)
