-- Parts of the tests' forms: what may follow a number, and tests over their limit.
use Rattle.std.specs.Prelude.{ℕ}
use Rattle.forms.specs.Form.{Form, pair, fmap}
use Rattle.forms.specs.Pieces.{terminated}
use Rattle.definitions.specs.declared.table.SizeField.{SizeField}
use Rattle.definitions.specs.declared.table.SizeField.TheVariants as size_fields
use Rattle.definitions.specs.Numbers.{number, numeral}
use Rattle.definitions.specs.OptionValues.{OptionValue}
use Rattle.definitions.specs.Forms.{spaces, valued, comma, test, comparison}
use Rattle.definitions.specs.IpId.{renewed_item}
use Rattle.definitions.specs.declared.table.NumberField.{NumberField}
use Rattle.definitions.specs.declared.table.HeaderField.{HeaderField}
use Rattle.definitions.specs.declared.table.Item.TheVariants as item
use Rattle.definitions.specs.declared.table.Operator.{Operator}
use Rattle.read_words.specs.Words.{size_word}
use Rattle.read_operators.specs.Operators.{masked}

-- ---- after an optional comma

abbrev pub size_field : Form SizeField
size_field = comma size_fields.Payload size_word

-- ---- options over the limit: at a field's own limit they are definitions' `number_form` (of ip_id `ip_id_form`) and `field_form`

abbrev pub number_within : NumberField → ℕ → Form OptionValue
number_within f limit = valued (fmap (λ (n : ℕ). test (renewed_item (item.Number (record { field = f; number = n })))) (number limit))

abbrev pub field_within : HeaderField → ℕ → Form OptionValue
field_within f limit =
    valued (fmap (λ (p : ℕ × (Operator × ℕ)). test (item.Field (record { field = f; mask = p.0; operator = p.1.0; number = p.1.1 })))
    (pair (masked limit) (pair (terminated comparison spaces) (numeral limit))))
