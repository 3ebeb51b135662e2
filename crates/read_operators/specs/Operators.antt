-- The operators of tests and the mask, as they stand in definitions' forms.
use Rattle.std.specs.Prelude.{ℕ}
use Rattle.forms.specs.Form.{Form}
use Rattle.forms.specs.Pieces.{preceded, terminated, or, opt, literal, literal_as}
use Rattle.definitions.specs.Numbers.{numeral}
use Rattle.definitions.specs.Forms.{spaces, less_or_greater}
use Rattle.definitions.specs.declared.table.Order.{Order}
use Rattle.definitions.specs.declared.table.Order.TheVariants as order

-- optional `<`, `>` or `=`
abbrev pub size_order : Form Order
size_order = opt order.Equal (or less_or_greater (literal_as 61 order.Equal))

-- optional `&` and a mask; the limit is the full mask
abbrev pub masked : ℕ → Form ℕ
masked limit = opt limit (preceded (literal 38) (preceded spaces (terminated (numeral limit) spaces)))
