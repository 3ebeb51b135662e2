-- One byte of a pattern's text, as the code goes about it. Section "House text".
use Rattle.std.specs.Prelude.{ℕ, ◌/◌, ◌%◌, Bool, not, List, [], ◌∷◌, ◌++◌, if◌then◌else◌}
use Rattle.forms.specs.Bytes.{text}
use Rattle.definitions.specs.Canonical.{text_if, hex_digit}

-- plain or not; `opened` tells whether a block is open before it
unfoldable pub byte_text : Bool → Bool → ℕ → List ℕ
byte_text opened plain b =
    if plain then text_if opened (text "|") ++ (b ∷ [])
    else text_if (not opened) (text "|") ++ (hex_digit (b / 16) ∷ hex_digit (b % 16) ∷ [])
