-- What the library says of a test of every element, over those after the first.
use Rattle.std.proofs.Common.{◌∙◌, arith, rules, tests}
use Rattle.std.proofs.lemmas.Iterator.{YieldsList-from_slice}
use Rattle.std.proofs.lemmas.Iterator.Search.{all_from_yields_List}
use Rattle.definitions.specs.Limits.{max_addresses}
use Rattle.definitions.specs.WellFormed.{address_unused}
use Rattle.table_slots.proofs.Every.{every_is}
use Rattle.table_slots.proofs.Rest.{rest_from}
use Rattle.table_slots.proofs.addresses.addresses_unused.Goals as goal

pub returns : goal.returns
returns c =
    let rest = c.iter.ensures.rest ∙ rest_from c.args.from c.min.result max_addresses c.args.list (omega arith) c.min.ensures in
    all_from_yields_List address_unused _ _ _ c.all.ensures.ran (YieldsList-from_slice _ rest) (λ x b q k. search (rules, tests))
    ∙ every_is address_unused _
