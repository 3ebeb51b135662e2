-- A scanner reads a form: from one cursor on, with a value, to another. The definitions' `read_at`, in the code's own type of places.
use Rattle.std.specs.Prelude.{ℕ, ◌≤◌, ◌≡◌, Bool, false, List, length, drop, if◌then◌else◌}
use Rattle.forms.specs.Form.{Class, Form}
use Rattle.forms.specs.Scan.{begins}
use Rattle.forms.specs.Place.{Read, Parsed, OutOfRange, Failed, read_at, out_of_range_at}
use Rattle.scan_cursors.specs.declared.Cursor.{Cursor}
use Rattle.scan_cursors.specs.declared.Cursor.TheVariants as cursor

-- a value and a cursor as the answer of a form; the value counts only where scanning goes on
abbrev pub read_by : {A : Type 0} → A → Cursor → Read A
read_by v (cursor.Parsed n) = Parsed v n
read_by v (cursor.OutOfRange p n) = OutOfRange p n
read_by v (cursor.Failed p) = Failed p

-- the answer of a form from where a cursor stands
abbrev pub from : {A : Type 0} → Cursor → (ℕ → Read A) → Read A
from (cursor.Parsed n) k = k n
from (cursor.OutOfRange p n) k = out_of_range_at p (k n)
from (cursor.Failed p) k = Failed p

abbrev pub out_of_range_by : ℕ → Cursor → Cursor
out_of_range_by p (cursor.Parsed n) = cursor.OutOfRange p n
out_of_range_by p (cursor.OutOfRange q n) = cursor.OutOfRange p n
out_of_range_by p (cursor.Failed q) = cursor.Failed q

-- the cursor d, which a scanner answered from the place of c, after all that c went through
abbrev pub joined : Cursor → Cursor → Cursor
joined (cursor.Parsed n) d = d
joined (cursor.OutOfRange p n) d = out_of_range_by p d
joined (cursor.Failed p) d = cursor.Failed p

abbrev pub place_of : Cursor → ℕ
place_of (cursor.Parsed n) = n
place_of (cursor.OutOfRange p n) = n
place_of (cursor.Failed p) = p

abbrev pub Inside : List ℕ → Cursor → Type 0
Inside s c = place_of c ≤ length s

-- whether scanning goes on, with a byte of the class
abbrev pub next_in : Class → List ℕ → Cursor → Bool
next_in k s (cursor.Parsed n) = begins k (drop n s)
next_in k s (cursor.OutOfRange p n) = begins k (drop n s)
next_in k s (cursor.Failed p) = false

-- the cursor d after a value that began at the place p and keeps its limit or not
abbrev pub limited_by : Bool → ℕ → Cursor → Cursor
limited_by b p (cursor.Parsed n) = if b then cursor.Parsed n else cursor.OutOfRange p n
limited_by b p (cursor.OutOfRange q n) = cursor.OutOfRange q n
limited_by b p (cursor.Failed q) = cursor.Failed q

-- from the cursor c on the text s is read as the form f, with the value v, up to the cursor d
pub record Reads {A : Type 0} (f : Form A) (s : List ℕ) (c : Cursor) (v : A) (d : Cursor) : Type 0 where
  pub reads : read_by v d ≡ from c (λ n. read_at f s n)
  pub inside : Inside s d

-- the same where the value is of no interest
abbrev pub Skips : {A : Type 0} → Form A → List ℕ → Cursor → Cursor → Type 0
Skips {A} f s c d = (v : A) × Reads f s c v d
