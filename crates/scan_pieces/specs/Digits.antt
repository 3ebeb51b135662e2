-- Digits as a number, and the mark of hex digits.
use Rattle.std.specs.Prelude.{ℕ, ◌+◌, Bool, ◌&&◌, List, [], ◌∷◌, drop, leb}
use Rattle.forms.specs.Form.{Class, Form, byte, fmap, bound}
use Rattle.forms.specs.Scan.{begins}
use Rattle.forms.specs.Pieces.{some}
use Rattle.definitions.specs.Numbers.{value_of}

-- digits of a class as a number in a base, up to a limit; as Numbers.number, over the class and the base
abbrev pub digits_within : Class → ℕ → ℕ → Form ℕ
digits_within c base limit = bound (λ (n : ℕ). leb n limit) (λ (n : ℕ). 0) (fmap (value_of base 0) (some (byte c)))

-- `0x` or `0X` stands at the place
abbrev pub hex_prefixed : List ℕ → ℕ → Bool
hex_prefixed s at = begins ((48, 48) ∷ []) (drop at s) && begins ((120, 120) ∷ (88, 88) ∷ []) (drop (at + 1) s)
