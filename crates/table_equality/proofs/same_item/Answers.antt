-- `==` and the computing each say whether the items are equal.
use Rattle.std.proofs.Common.{◌∙◌}
use Rattle.std.specs.Bool.{one_answer}
use Rattle.table_equality.specs.SameTables.{same_item}
use Rattle.table_equality.proofs.Derived.{item_exact}
use Rattle.table_equality.proofs.Exactly.{same_item_exactly}
use Rattle.table_equality.proofs.same_item.Goals as goal

pub returns : goal.returns
returns c =
    let a = c.args.a in
    let b = c.args.b in
    c.eq.ensures ∙ one_answer _ (same_item a b) (item_exact a b) (same_item_exactly a b)
