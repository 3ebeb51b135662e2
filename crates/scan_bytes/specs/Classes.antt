-- The classes of bytes by their names in the code, and a word's byte in either letter case.
use Rattle.std.specs.Prelude.{ℕ, ◌-◌, [], ◌∷◌, if◌then◌else◌}
use Rattle.forms.specs.Bytes.{between}
use Rattle.forms.specs.Form as forms
use Rattle.definitions.specs.Numbers.{decimal_digits, hex_digits}
use Rattle.definitions.specs.Forms.{quotable}
use Rattle.scan_bytes.specs.declared.bytes.Class.{Class}
use Rattle.scan_bytes.specs.declared.bytes.Class.TheVariants.{Space, Digit, HexDigit, Quotable, NameByte, Printable}

abbrev pub class_of : Class → forms.Class
class_of Space = (32, 32) ∷ []
class_of Digit = decimal_digits
class_of HexDigit = hex_digits
class_of Quotable = quotable
class_of NameByte = (65, 90) ∷ (97, 122) ∷ (48, 57) ∷ (95, 95) ∷ (46, 46) ∷ []
class_of Printable = (32, 126) ∷ []

-- as Pieces.anyCase
abbrev pub case_class : ℕ → forms.Class
case_class y = if between 97 122 y then (y, y) ∷ (y - 32, y - 32) ∷ [] else (y, y) ∷ []
