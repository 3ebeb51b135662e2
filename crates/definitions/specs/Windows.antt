-- Where a pattern lies: its window, and its bytes. Section "Meaning". Window starts are signed numbers and may be negative.
use Rattle.std.specs.Prelude.{ℕ, ◌+◌, Bool, true, false, ◌&&◌, List, [], ◌∷◌, length, drop, eqb, leb, ℤ, pos, ◌+ℤ◌, ◌-ℤ◌, if◌then◌else◌, Option, Some, None}
use Rattle.std.specs.Int.Signed.{le_z}
use Rattle.forms.specs.Bytes.{lower}
use Rattle.definitions.specs.declared.table.Reference.{Reference}
use Rattle.definitions.specs.declared.table.Reference.TheVariants as reference
use Rattle.definitions.specs.declared.table.DistanceValue.{DistanceValue}
use Rattle.definitions.specs.declared.table.Pattern.{Pattern}
use Rattle.definitions.specs.declared.packets.Match.{Match}
use Rattle.definitions.specs.declared.table.WithinValue.{WithinValue}

-- r is 0, or with `match` the end of the last positive pattern before, if there is one
abbrev pub last_end : Option Match → ℕ
last_end None = 0
last_end (Some m) = m.end

abbrev pub base : Option Match → Reference → ℕ
base l reference.Match = last_end l
base l reference.Packet = 0
base l reference.Context = 0

-- s = r + distance (0 if not given), or s = L - distance with reverse; with neither range the window is 0 to L
abbrev pub shifted : Option Match → ℕ → DistanceValue → ℤ
shifted l len d = if d.reverse then pos len -ℤ d.offset else pos (base l d.reference) +ℤ d.offset

abbrev pub window_start : Option Match → ℕ → Option DistanceValue → Option WithinValue → ℤ
window_start l len (Some d) w = shifted l len d
window_start l len None (Some w) = pos (base l w.reference)
window_start l len None None = pos 0

-- the window ends at L, or at the smaller of s + within and L
abbrev pub before_end : ℤ → Option WithinValue → ℕ → ℕ → Bool
before_end s None len e = leb e len
before_end s (Some w) len e = leb e len && le_z (pos e) (s +ℤ pos w.number)

-- p is at least s (and, a natural number, at least 0), and p + n at most the end
unfoldable pub in_window : Pattern → Option Match → ℕ → ℕ → Bool
in_window p l len at =
    le_z (window_start l len p.distance p.within) (pos at)
    && before_end (window_start l len p.distance p.within) p.within len (at + p.len)

-- equal, or with no_case letters A to Z and a to z alike
unfoldable pub alike : Bool → ℕ → ℕ → Bool
alike nocase x y = if nocase then eqb (lower x) (lower y) else eqb x y

-- the bytes b stand at the front of the list
unfoldable pub stands_at : Bool → List ℕ → List ℕ → Bool
stands_at nocase [] l = true
stands_at nocase (x ∷ b) [] = false
stands_at nocase (x ∷ b) (y ∷ l) = alike nocase x y && stands_at nocase b l

-- the pattern p with the bytes b lies at a place of the field f
unfoldable pub lies : Pattern → List ℕ → Option Match → List ℕ → ℕ → Bool
lies p b l f at = in_window p l (length f) at && stands_at p.nocase b (drop at f)
