-- An entry of a placement: where a positive pattern lies; its order, and what makes one of a number. Section "Meaning".
use Rattle.std.specs.Prelude.{ℕ, Bool, eqb, ltb}
use Rattle.definitions.specs.declared.packets.Start.{Start}

-- the start so many bytes from the field's start, and a start as the number that answers are compared by
abbrev pub start_at : ℕ → Start
start_at n = record { at = n }

abbrev pub start_number : Start → ℕ
start_number s = s.at

unfoldable pub start_before : Start → Start → Bool
start_before a b = ltb a.at b.at

unfoldable pub same_start : Start → Start → Bool
same_start a b = eqb a.at b.at
