-- What the library says of a test of every element, over the first of them.
use Rattle.std.proofs.Common.{◌∙◌, rules, tests}
use Rattle.std.proofs.lemmas.Iterator.{YieldsList-from_slice}
use Rattle.std.proofs.lemmas.Iterator.Search.{all_from_yields_List}
use Rattle.forms.specs.Form.{has}
use Rattle.definitions.specs.Forms.{quotable}
use Rattle.table_bytes.proofs.Every.{every_is}
use Rattle.table_bytes.proofs.quotable_to.Goals as goal

pub returns : goal.returns
returns c =
    all_from_yields_List (has quotable) _ _ _ c.all.ensures.ran (YieldsList-from_slice _ c.iter.ensures.rest) (λ x b q k. search (rules, tests))
    ∙ every_is (has quotable) _
