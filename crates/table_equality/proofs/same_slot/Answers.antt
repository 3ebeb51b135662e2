-- `==` and the computing each say whether the slots are equal.
use Rattle.std.proofs.Common.{◌∙◌}
use Rattle.std.specs.Bool.{one_answer}
use Rattle.table_equality.specs.SameTables.{same_slot}
use Rattle.table_equality.proofs.Derived.{slot_exact}
use Rattle.table_equality.proofs.Exactly.{same_slot_exactly}
use Rattle.table_equality.proofs.same_slot.Goals as goal

pub returns : goal.returns
returns c =
    let a = c.args.a in
    let b = c.args.b in
    c.eq.ensures ∙ one_answer _ (same_slot a b) (slot_exact a b) (same_slot_exactly a b)
