-- Which items are positive patterns.
use Rattle.std.specs.Prelude.{Bool, false, not}
use Rattle.definitions.specs.declared.table.Slot.{Slot}
use Rattle.definitions.specs.Items.{Kind, unused, addressed, patterned, plain_test, kind_of}

abbrev pub positive_kind : Kind → Bool
positive_kind unused = false
positive_kind (addressed a) = false
positive_kind (patterned p) = not p.negated
positive_kind plain_test = false

abbrev pub is_positive : Slot → Bool
is_positive sl = positive_kind (kind_of sl.item)
