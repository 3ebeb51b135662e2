-- A name in quotes: its form, and what its scanner promises.
use Rattle.std.specs.Prelude.{ℕ, ◌+◌, ◌≤◌, ◌≡◌, List, length, take, drop, leb}
use Rattle.forms.specs.Form.{Form, byte, bound}
use Rattle.forms.specs.Pieces.{preceded, terminated, some, literal}
use Rattle.definitions.specs.Limits.{max_name}
use Rattle.definitions.specs.Forms.{quotable}
use Rattle.scan_cursors.specs.declared.Cursor.{Cursor}
use Rattle.scan_cursors.specs.declared.Cursor.TheVariants.{Parsed}
use Rattle.scan_cursors.specs.Reads.{Reads}

-- as within Forms.nameForm
abbrev pub quoted_name : Form (List ℕ)
quoted_name = bound (λ (n : List ℕ). leb (length n) max_name) (λ (n : List ℕ). 0) (preceded (literal 34) (terminated (some (byte quotable)) (literal 34)))

-- the name is told by its first byte's place in the text and its length
pub record NameRead (s : List ℕ) (c : Cursor) (from len : ℕ) (d : Cursor) : Type 0 where
  pub read : Reads quoted_name s c (take len (drop from s)) d
  pub inside : from + len ≤ length s
  pub low : (n : ℕ) → d ≡ Parsed n → 1 ≤ len
  pub high : (n : ℕ) → d ≡ Parsed n → len ≤ max_name
