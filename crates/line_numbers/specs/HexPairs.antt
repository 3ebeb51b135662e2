-- BYTES AS PAIRS OF HEX DIGITS of either case, `-` if there are none. The bytes are `pairs` of it: in `-` there is no pair.
use Rattle.std.specs.Prelude.{ℕ, ◌%◌, Bool, not, ◌&&◌, ◌||◌, List, length, eqb}
use Rattle.forms.specs.Bytes.{text}
use Rattle.forms.specs.Form.{has}
use Rattle.definitions.specs.Lists.{all?, none?, same_bytes}
use Rattle.definitions.specs.Numbers.{hex_digits}

unfoldable pub is_hex : List ℕ → Bool
is_hex l = same_bytes l (text "-") || (not (none? l) && (all? (has hex_digits) l && eqb (length l % 2) 0))
