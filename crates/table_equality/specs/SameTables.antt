-- WHETHER TWO TABLES ARE EQUAL, by computing. Document 02, T-10: texts differ exactly if their tables differ. proofs/Exactly.antt has the statement that this
-- is equality, whatever stands in the tables, unused room too.
use Rattle.std.specs.Prelude.{Bool, true, false, ◌&&◌, List, [], ◌∷◌, eqb, ℤ}
use Rattle.std.specs.Int.Signed.{le_z}
use Rattle.definitions.specs.declared.table.Item.{Item}
use Rattle.definitions.specs.declared.table.Address.{Address}
use Rattle.definitions.specs.declared.table.Slot.{Slot}
use Rattle.definitions.specs.declared.table.Table.{Table}
use Rattle.definitions.specs.Lists.{same_bytes}
use Rattle.table_numbers.specs.ItemNumbers.{flow_number, item_numbers, item_offset}

-- two lists, element by element
unfoldable pub same_by : {A : Type 0} → (A → A → Bool) → List A → List A → Bool
same_by f [] [] = true
same_by f [] (y ∷ ys) = false
same_by f (x ∷ xs) [] = false
same_by f (x ∷ xs) (y ∷ ys) = f x y && same_by f xs ys

abbrev pub same_offset : ℤ → ℤ → Bool
same_offset a b = le_z a b && le_z b a

unfoldable pub same_item : Item → Item → Bool
same_item a b = same_bytes (item_numbers a) (item_numbers b) && same_offset (item_offset a) (item_offset b)

unfoldable pub same_address : Address → Address → Bool
same_address a b = eqb a.number b.number && eqb a.prefix b.prefix

unfoldable pub same_slot : Slot → Slot → Bool
same_slot a b = same_item a.item b.item && same_by same_address a.addresses b.addresses

-- all eight fields: the numbers, the flow, the name, the pattern bytes, the slots
unfoldable pub same_table : Table → Table → Bool
same_table t u =
    eqb t.len u.len
    && (eqb t.protocol u.protocol
    && (eqb (flow_number t.flow) (flow_number u.flow)
    && (eqb t.used u.used
    && (eqb t.count u.count
    && (same_bytes t.name u.name && (same_bytes t.bytes u.bytes && same_by same_slot t.items u.items))))))
