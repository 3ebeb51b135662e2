-- Pattern bytes: the forms within `pattern`, and what a scanner promises that stores the bytes that it reads.
use Rattle.std.specs.Prelude.{ℕ, ◌+◌, ◌≤◌, ◌≡◌, List, [], ◌∷◌, length}
use Rattle.forms.specs.Form.{Form, byte, fmap}
use Rattle.forms.specs.Pieces.{preceded, terminated, or, some, literal}
use Rattle.definitions.specs.Limits.{document_limits}
use Rattle.definitions.specs.Forms.{spaces, hex_pair, block, plain_bytes, pattern_bytes}
use Rattle.read_value.specs.Values.{PatternBytes, appended}
use Rattle.scan_cursors.specs.declared.Cursor.{Cursor}
use Rattle.scan_cursors.specs.declared.Cursor.TheVariants.{Parsed}
use Rattle.scan_cursors.specs.Reads.{place_of, Inside, Reads}

-- as within Forms.block, Forms.patternBytes and Forms.patternForm
abbrev pub spaced_pair : Form ℕ
spaced_pair = terminated hex_pair spaces

abbrev pub hex_pairs : Form (List ℕ)
hex_pairs = some spaced_pair

abbrev pub element : Form (List ℕ)
element = or (fmap (λ (b : ℕ). b ∷ []) (byte plain_bytes)) block

abbrev pub quoted_bytes : Form (List ℕ)
quoted_bytes = preceded (literal 34) (terminated pattern_bytes (literal 34))

-- no more bytes are in use than stand before the cursor's place, so that those from there on have room in the buffer
pub record Ready (s : List ℕ) (c : Cursor) (room : PatternBytes) : Type 0 where
  pub inside : Inside s c
  pub short : length s ≤ document_limits.text
  pub after : room.used ≤ place_of c
  pub full : length room.bytes ≡ document_limits.room

-- the bytes b are read, and stand in the room after those that were in use
pub record Stored (f : Form (List ℕ)) (s : List ℕ) (c : Cursor) (room : PatternBytes) (b : List ℕ) (to : PatternBytes) (d : Cursor) : Type 0 where
  pub read : Reads f s c b d
  pub kept : to ≡ appended room b
  pub grown : (n : ℕ) → d ≡ Parsed n → place_of c + length b ≤ n

abbrev pub Stores : Form (List ℕ) → List ℕ → Cursor → PatternBytes → PatternBytes → Cursor → Type 0
Stores f s c room to d = (b : List ℕ) × Stored f s c room b to d

-- the pattern in quotes, and how many bytes it has
pub record PatternRead (s : List ℕ) (c : Cursor) (room : PatternBytes) (b : List ℕ) (to : PatternBytes) (len : ℕ) (d : Cursor) : Type 0 where
  pub stored : Stored quoted_bytes s c room b to d
  pub counted : len ≡ length b

abbrev pub PatternReads : List ℕ → Cursor → PatternBytes → PatternBytes → ℕ → Cursor → Type 0
PatternReads s c room to len d = (b : List ℕ) × PatternRead s c room b to len d
