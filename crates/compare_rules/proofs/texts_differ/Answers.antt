-- What is read at each rule's place has the table of its text.
use mathlib.Core.Path.{ap, ap₂, ◌∙◌}
use mathlib.Core.Bool.{not}
use Rattle.table_equality.specs.SameTables.{same_table}
use Rattle.compare_rules.proofs.LoadedRules.{table_read}
use Rattle.compare_rules.proofs.texts_differ.Goals as goal

pub returns : goal.returns
returns c =
    let x = c.args in
    ap not
    (c.same_table.ensures
    ∙ ap₂ same_table
    (table_read x.first.now x.a c.read-x.ensures.answer c.text_at.ensures)
    (table_read x.second.now x.b c.read-y.ensures.answer c.text_at-2.ensures))
