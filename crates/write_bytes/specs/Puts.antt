-- Bytes put one after the other into a lent buffer.
use Rattle.std.specs.Prelude.{ℕ, suc, ◌≡◌, List, [], ◌∷◌, ltb, set, if◌then◌else◌}

-- so many bytes are counted; whoever writes takes that many for too many
abbrev pub max_counted : ℕ
max_counted = 4294967295

-- the place after one byte more
unfoldable pub counted : ℕ → ℕ
counted at = if ltb at max_counted then suc at else at

-- the buffer and the next place after some bytes; past the buffer's end none is kept
unfoldable pub puts : List ℕ → ℕ → List ℕ → List ℕ × ℕ
puts out at [] = (out, at)
puts out at (b ∷ l) = puts (set out at b) (counted at) l

-- the bytes l were put into the buffer out from a place on, which made it after; the next place is next
pub record Puts (out : List ℕ) (at : ℕ) (l : List ℕ) (after : List ℕ) (next : ℕ) : Type 0 where
  pub is : (after, next) ≡ puts out at l
