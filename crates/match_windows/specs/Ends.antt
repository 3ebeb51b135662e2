-- How the code gets from the signed start and end of a window to starts. Document 01, section "Meaning".
use Rattle.std.specs.Prelude.{ℕ, ◌+◌, ◌-◌, ◌<◌, min, ◌≡◌, ℤ, pos, negsuc, ◌+ℤ◌, if◌then◌else◌, Option, Some, None}
use Rattle.std.specs.Int.Signed.{mag, le_z}
use Rattle.match_windows.specs.Spans.{start_bound}
use Rattle.definitions.specs.declared.table.WithinValue.{WithinValue}

-- z, or 0 where z is negative
abbrev pub clip : ℤ → ℕ
clip (pos n) = n
clip (negsuc n) = 0

-- the start s is z, and small
pub record Begins (z s : ℤ) : Type 0 where
  pub is : s ≡ z
  pub small : mag s < start_bound

-- one past the last start at which n bytes end by the window's end
unfoldable pub ends_to : ℤ → Option WithinValue → ℕ → ℕ → ℕ
ends_to s None len n = len + 1 - n
ends_to s (Some w) len n = if le_z (pos n) (s +ℤ pos w.number) then min (clip (s +ℤ pos w.number)) len + 1 - n else 0
