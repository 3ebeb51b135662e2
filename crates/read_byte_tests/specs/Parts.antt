-- The numbers and the operators of byte_test, as the code tells them apart.
use Rattle.std.specs.Prelude.{ℕ, Bool, true, false, List, [], ◌∷◌, if◌then◌else◌}
use Rattle.forms.specs.Form.{Form}
use Rattle.definitions.specs.declared.table.ByteOperator.{ByteOperator}
use Rattle.definitions.specs.declared.table.ByteOperator.TheVariants.{Greater, Less, Equal, Unequal}
use Rattle.definitions.specs.Numbers.{number, numeral}
use Rattle.scan_cursors.specs.declared.Cursor.{Cursor}
use Rattle.scan_cursors.specs.Reads.{next_in}

-- a number up to a limit, with hex or without
abbrev pub number_in : Bool → ℕ → Form ℕ
number_in true limit = numeral limit
number_in false limit = number limit

-- the byte of an operator
abbrev pub sign_of : ByteOperator → ℕ
sign_of Greater = 62
sign_of Less = 60
sign_of Equal = 61
sign_of Unequal = 33

-- the operator that the next byte tells
abbrev pub operator_next : List ℕ → Cursor → ByteOperator
operator_next s c =
    if next_in ((62, 62) ∷ []) s c then Greater
    else if next_in ((60, 60) ∷ []) s c then Less
    else if next_in ((61, 61) ∷ []) s c then Equal
    else Unequal
