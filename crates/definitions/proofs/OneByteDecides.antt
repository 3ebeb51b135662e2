-- One byte of look-ahead decides in the form of every option, so that the scanner reads exactly what each form means (crate forms).
use mathlib.Core.Path.{◌≡◌, refl}
use mathlib.Core.Bool.{Bool, true, ◌&&◌}
use mathlib.Core.List.{List, [], ◌∷◌}
use Rattle.forms.specs.Scan.{is_ll1}
use Rattle.definitions.specs.Options.{Option, option_table}

unfoldable pub all_ll1 : List Option → Bool
all_ll1 [] = true
all_ll1 (o ∷ os) = is_ll1 o.form && all_ll1 os

pub options_one_byte : all_ll1 option_table ≡ true
unfolding all_ll1 option_table
options_one_byte = refl
