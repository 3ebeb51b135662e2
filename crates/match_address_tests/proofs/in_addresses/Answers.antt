-- A test of any of the first addresses.
use Rattle.std.proofs.Common.{sym, ◌∙◌, take, rules, tests}
use Rattle.std.proofs.lemmas.Iterator.{YieldsList-from_slice, YieldsList-from_take}
use Rattle.std.proofs.lemmas.Iterator.Consumers.{YieldsList-at}
use Rattle.std.proofs.lemmas.Iterator.Search.{any_from_yields_List}
use Rattle.definitions.specs.declared.table.Address.{Address}
use Rattle.definitions.specs.Tests.{same_bits}
use Rattle.match_address_tests.proofs.Among.{among_any}
use Rattle.match_address_tests.proofs.in_addresses.Goals as goal

pub returns : goal.returns
returns c =
    let a = c.args in
    let first = YieldsList-from_take a.count (YieldsList-at c.take.ensures.source (YieldsList-from_slice a.addresses cc)) c.take.ensures.count in
    any_from_yields_List (λ (b : Address). same_bits b.prefix a.x b.number) _ _ _ c.any.ensures.ran first (λ x b q k. search (rules, tests))
    ∙ sym (among_any a.x (take a.count a.addresses))
