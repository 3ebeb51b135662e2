-- Names: a run of bytes between quotes reads as a name, within the bound on its length or beyond it.
use mathlib.Core.Path.{◌≡◌, sym, ◌∙◌}
use mathlib.Core.List.{List}
use Prim.Native.Nat.{ℕ, ◌+◌, ◌≤◌}
use native.Mathlib.Omega.{arith}
use lib.ListN.{length, take, drop, length-drop}
use lib.Seq.{length-take-le}
use lib.Dec.{leb}
use borrow.Author.Tests.{leb-true}
use Rattle.forms.specs.Form.{byte}
use Rattle.forms.specs.Pieces.{some, literal}
use Rattle.definitions.specs.Limits.{max_name}
use Rattle.definitions.specs.Forms.{quotable}
use Rattle.scan_cursors.specs.declared.Cursor.{Cursor}
use Rattle.scan_cursors.specs.Reads.{place_of, Inside, limited_by, Reads}
use Rattle.scan_cursors.proofs.Readings.{preceded_reads, terminated_reads, limit_reads}
use Rattle.scan_cursors.proofs.Onward.{came_parsed, limited_parsed, some_filled}
use Rattle.read_quoted.specs.Quoting.{NameRead}

pub name_read : {s : List ℕ} {c o e k d : Cursor} {x y : ℕ} (from len : ℕ) → Inside s c → Reads (literal 34) s c x o
    → Reads (some (byte quotable)) s o (take len (drop from s)) e → from + len ≤ length s → Reads (literal 34) s e y k
    → d ≡ limited_by (leb len max_name) (place_of c) k → NameRead s c from len d
name_read {s} {c} {o} {e} {k} {d} from len i r1 r2 h r3 q =
    let z : length (take len (drop from s)) ≡ len = length-take-le len (drop from s) (omega (arith, length-drop from s, h)) in
    let r = limit_reads (λ (n : List ℕ). leb (length n) max_name) i (preceded_reads i r1 (terminated_reads r1.inside r2 r3)) in
    record {
      read = rw q (rw z at r);
      inside = h;
      low = λ n g.
          let w = (limited_parsed (leb len max_name) (place_of c) k (sym q ∙ g)).0 in
          rw z at (some_filled r2 (came_parsed r3 w).1);
      high = λ n g. leb-true len max_name (limited_parsed (leb len max_name) (place_of c) k (sym q ∙ g)).1;
    }
