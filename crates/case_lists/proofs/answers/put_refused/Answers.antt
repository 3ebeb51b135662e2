use mathlib.Core.Path.{sym, ap}
use Rattle.write_bytes.proofs.Putting.{then, told}
use mathlib.Core.List.{◌++◌}
use Rattle.forms.specs.Bytes.{text}
use Rattle.definitions.specs.Canonical.{decimal}
use Rattle.case_lists.proofs.answers.put_refused.Goals as goal

pub returns : goal.returns
returns c = told (ap (λ n. text "refused " ++ decimal n) (sym c.number_of.ensures))
    (then c.put_word-next.ensures c.put_decimal.ensures)
