-- Numbers in a text. Section "Text": decimal digits, leading zeros allowed; in field tests, and in the value of byte_test, decimal, or `0x` or `0X` and hex
-- digits.
-- A number has any count of digits and never wraps.
use Rattle.std.specs.Prelude.{ℕ, ◌+◌, ◌-◌, ◌*◌, Bool, not, ◌&&◌, List, [], ◌∷◌, leb, if◌then◌else◌}
use Rattle.forms.specs.Form.{Class, Form, has, byte, pair, many, fmap, bound}
use Rattle.forms.specs.Pieces.{preceded, or, some, literal}
use Rattle.definitions.specs.Lists.{all?, none?}

abbrev pub decimal_digits : Class
decimal_digits = (48, 57) ∷ []

abbrev pub hex_digits : Class
hex_digits = (48, 57) ∷ (65, 70) ∷ (97, 102) ∷ []

-- what a digit 0 to 9, A to F or a to f writes
unfoldable pub digit_value : ℕ → ℕ
digit_value b = if leb b 57 then b - 48 else if leb b 70 then b - 55 else b - 87

-- the number that digits write in a base, after digits that wrote a
unfoldable pub value_of : ℕ → ℕ → List ℕ → ℕ
value_of base a [] = a
value_of base a (b ∷ l) = value_of base (a * base + digit_value b) l

-- whether a whole text is a decimal number up to a limit
unfoldable pub is_number : ℕ → List ℕ → Bool
is_number limit l = not (none? l) && (all? (has decimal_digits) l && leb (value_of 10 0 l) limit)

-- a decimal number of which something is asked; one that is not so is placed at its first digit
abbrev pub number_that : (ℕ → Bool) → Form ℕ
number_that kept = bound kept (λ (n : ℕ). 0) (fmap (value_of 10 0) (some (byte decimal_digits)))

-- one up to a limit
abbrev pub number : ℕ → Form ℕ
number limit = number_that (λ (n : ℕ). leb n limit)

-- decimal or hex: how many bytes stand before its first digit, and the number
abbrev pub either_base : Form (ℕ × ℕ)
either_base =
    or
    (preceded (literal 48)
    (or (preceded (byte ((120, 120) ∷ (88, 88) ∷ [])) (fmap (λ (l : List ℕ). (2, value_of 16 0 l)) (some (byte hex_digits))))
    (fmap (λ (l : List ℕ). (0, value_of 10 0 l)) (many (byte decimal_digits)))))
    (fmap (λ (p : ℕ × List ℕ). (0, value_of 10 0 (p.0 ∷ p.1))) (pair (byte ((49, 57) ∷ [])) (many (byte decimal_digits))))

-- a number in either base up to a limit
abbrev pub numeral : ℕ → Form ℕ
numeral limit = fmap (λ (p : ℕ × ℕ). p.1) (bound (λ (p : ℕ × ℕ). leb p.1 limit) (λ (p : ℕ × ℕ). p.0) either_base)
