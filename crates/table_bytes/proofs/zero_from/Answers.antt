-- What the library says of a fold over those after the first, and that bits gathered from bytes are none where each is zero (`gathered`).
use Rattle.std.proofs.Common.{◌∙◌, ap, bit_or, nat_eq, rules, tests}
use Rattle.std.proofs.lemmas.Iterator.{YieldsList-from_slice}
use Rattle.std.proofs.lemmas.Iterator.Consumers.{fold_from_yields_List}
use Rattle.table_bytes.proofs.Bits.{gathered}
use Rattle.table_bytes.proofs.Rest.{rest_from}
use Rattle.table_bytes.proofs.zero_from.Goals as goal

pub returns : goal.returns
returns c =
    let rest = c.iter.ensures.rest ∙ rest_from c.args.from c.min.result c.args.s.now c.min.ensures in
    let bits = fold_from_yields_List _ bit_or 0 c.fold.result c.fold.ensures.ran (YieldsList-from_slice _ rest) (λ a x b q k. search (rules, tests)) in
    ap (λ b. nat_eq b 0) bits ∙ gathered 0 _
