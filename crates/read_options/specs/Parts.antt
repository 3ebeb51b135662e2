-- Parts of the ranges' forms: what may follow a number, after an optional comma.
use Rattle.forms.specs.Bytes.{text}
use Rattle.std.specs.Prelude.{Bool, true, false}
use Rattle.forms.specs.Form.{Form, pair}
use Rattle.forms.specs.Pieces.{keyword}
use Rattle.definitions.specs.Forms.{comma, reference_word}
use Rattle.definitions.specs.declared.table.Reference.{Reference}
use Rattle.definitions.specs.declared.table.Reference.TheVariants as references

abbrev pub reference : Form Reference
reference = comma references.Match reference_word

abbrev pub reversed : Form Bool
reversed = comma false (keyword (text "reverse") true)

-- a reference, only then `,reverse`
abbrev pub directed : Form (Reference × Bool)
directed = comma (references.Match, false) (pair reference_word reversed)
