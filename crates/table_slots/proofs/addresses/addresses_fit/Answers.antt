-- What the library says of a test of every element, over the first of them.
use Rattle.std.proofs.Common.{◌∙◌, rules, tests}
use Rattle.std.proofs.lemmas.Iterator.{YieldsList-from_slice}
use Rattle.std.proofs.lemmas.Iterator.Search.{all_from_yields_List}
use Rattle.definitions.specs.WellFormed.{address_fits}
use Rattle.table_slots.proofs.Every.{every_is}
use Rattle.table_slots.proofs.addresses.addresses_fit.Goals as goal

pub returns : goal.returns
returns c =
    all_from_yields_List address_fits _ _ _ c.all.ensures.ran (YieldsList-from_slice _ c.iter.ensures.rest) (λ x b q k. search (rules, tests))
    ∙ every_is address_fits _
