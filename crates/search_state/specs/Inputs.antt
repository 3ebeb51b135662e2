-- The items that a search goes over.
use Rattle.std.specs.Prelude.{ℕ, List, [], take, drop}
use Rattle.definitions.specs.declared.table.Item.TheVariants as item
use Rattle.definitions.specs.declared.table.Slot.{Slot}
use Rattle.search_state.specs.declared.input.SearchInput.{SearchInput}

-- the items in use from the k-th on
abbrev pub items_left : SearchInput → ℕ → List Slot
items_left q k = drop k (take q.count q.items)

-- what the logic has after the array's end
abbrev pub slot0 : Slot
slot0 = record { item = item.Unused; addresses = [] }
