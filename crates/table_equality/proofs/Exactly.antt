-- EQUALITY OF TABLES BY COMPUTING IS EQUALITY, for every two tables, whatever stands in them: each test of a field says that the field is equal, an item can be
-- told from its numbers and its offset, and a table, a slot and an address are their fields.
use mathlib.Core.Path.{◌≡◌, sym, ap, ap₂, ◌∙◌}
use mathlib.Core.Logic.Iff
use mathlib.Core.Logic.{◌↔◌}
use mathlib.Core.Bool.{true}
use mathlib.Core.List.{List}
use Prim.Native.Nat.{ℕ}
use native.Mathlib.Omega.{arith}
use lib.Dec.{eqb, leb}
use lib.IntN.{ℤ, pos, negsuc}
use borrow.Author.Tests.{eqb-true, eq-eqb, leb-true, le-leb}
use Rattle.definitions.specs.declared.table.Flow.{Flow}
use Rattle.definitions.specs.declared.table.Item.{Item}
use Rattle.definitions.specs.declared.table.Address.{Address}
use Rattle.definitions.specs.declared.table.Slot.{Slot}
use Rattle.definitions.specs.declared.table.Table.{Table}
use Rattle.definitions.specs.Lists.{same_bytes}
use Rattle.forms.proofs.Bools.{both_left, both_right}
use Rattle.forms.proofs.Sound.{never}
use Rattle.syntax.proofs.Frame.{same_bytes_lem, bytes_same}
use Rattle.table_numbers.specs.ItemNumbers.{flow_number, item_numbers, item_offset}
use Rattle.table_numbers.proofs.ItemsBack.{flow_of, flow_back, item_of, item_back}
use Rattle.table_equality.specs.SameTables.{same_offset, same_item, same_address, same_slot, same_table}
use Rattle.table_equality.proofs.SameLists.{both_exactly, by_exactly}

-- ---- numbers, bytes, flows, offsets

number_exactly : (a b : ℕ) → (eqb a b ≡ true) ↔ (a ≡ b)
number_exactly a b = (eqb-true a b, eq-eqb a b)

pub bytes_exactly : (x y : List ℕ) → (same_bytes x y ≡ true) ↔ (x ≡ y)
bytes_exactly x y = (same_bytes_lem x y, λ e. rw e (bytes_same y))

flow_exactly : (f g : Flow) → (eqb (flow_number f) (flow_number g) ≡ true) ↔ (f ≡ g)
flow_exactly f g =
    Iff.trans (number_exactly (flow_number f) (flow_number g)) (λ e. sym (flow_back f) ∙ ap flow_of e ∙ flow_back g, λ e. ap flow_number e)

at_most_both : (a b : ℕ) → (leb a b ≡ true) × (leb b a ≡ true) → a ≡ b
at_most_both a b e = let h = leb-true a b e.0 in let k = leb-true b a e.1 in omega arith

offset_same : (a : ℤ) → same_offset a a ≡ true
offset_same (pos a) = rw (le-leb a a (omega arith))
offset_same (negsuc a) = rw (le-leb a a (omega arith))

same_offset_lem : (a b : ℤ) → same_offset a b ≡ true → a ≡ b
same_offset_lem (pos a) (pos b) e = ap pos (at_most_both a b (both_left (leb a b) (leb b a) e, both_right (leb a b) (leb b a) e))
same_offset_lem (pos a) (negsuc b) e = never (cc)
same_offset_lem (negsuc a) (pos b) e = never (cc)
same_offset_lem (negsuc a) (negsuc b) e = ap negsuc (at_most_both a b (both_right (leb b a) (leb a b) e, both_left (leb b a) (leb a b) e))

offset_exactly : (a b : ℤ) → (same_offset a b ≡ true) ↔ (a ≡ b)
offset_exactly a b = (same_offset_lem a b, λ e. rw e (offset_same b))

-- ---- items, addresses, slots, tables

pub same_item_exactly : (a b : Item) → (same_item a b ≡ true) ↔ (a ≡ b)
unfolding same_item
same_item_exactly a b =
    Iff.trans (both_exactly _ _ (bytes_exactly (item_numbers a) (item_numbers b)) (offset_exactly (item_offset a) (item_offset b)))
    (λ e. sym (item_back a) ∙ ap₂ item_of e.0 e.1 ∙ item_back b, λ e. (ap item_numbers e, ap item_offset e))

same_address_exactly : (a b : Address) → (same_address a b ≡ true) ↔ (a ≡ b)
unfolding same_address
same_address_exactly a b =
    Iff.trans (both_exactly _ _ (number_exactly a.number b.number) (number_exactly a.prefix b.prefix))
    (λ (n, p). λ i. record { number = n i; prefix = p i }, λ e. (λ i. (e i).number, λ i. (e i).prefix))

pub same_slot_exactly : (a b : Slot) → (same_slot a b ≡ true) ↔ (a ≡ b)
unfolding same_slot
same_slot_exactly a b =
    Iff.trans
    (both_exactly _ _ (same_item_exactly a.item b.item) (by_exactly same_address same_address_exactly a.addresses b.addresses))
    (λ (p, q). λ i. record { item = p i; addresses = q i }, λ e. (λ i. (e i).item, λ i. (e i).addresses))

module _ (t u : Table) where
  -- the fields are equal, in the order of the tests
  abbrev FieldsEqual : Type 0
  FieldsEqual =
      (t.len ≡ u.len) × ((t.protocol ≡ u.protocol) × ((t.flow ≡ u.flow) × ((t.used ≡ u.used) × ((t.count ≡ u.count)
      × ((t.name ≡ u.name) × ((t.bytes ≡ u.bytes) × (t.items ≡ u.items)))))))

  fields_exactly : (same_table t u ≡ true) ↔ FieldsEqual
  unfolding same_table
  fields_exactly =
      both_exactly _ _ (number_exactly t.len u.len)
      (both_exactly _ _ (number_exactly t.protocol u.protocol)
      (both_exactly _ _ (flow_exactly t.flow u.flow)
      (both_exactly _ _ (number_exactly t.used u.used)
      (both_exactly _ _ (number_exactly t.count u.count)
      (both_exactly _ _ (bytes_exactly t.name u.name)
      (both_exactly _ _ (bytes_exactly t.bytes u.bytes) (by_exactly same_slot same_slot_exactly t.items u.items)))))))

  fields_table : FieldsEqual → t ≡ u
  fields_table (len, (protocol, (flow, (used, (count, (name, (bytes, items))))))) = λ i.
      record { name = name i; len = len i; protocol = protocol i; flow = flow i; bytes = bytes i; used = used i; items = items i; count = count i }

  table_fields : t ≡ u → FieldsEqual
  table_fields e =
      (λ i. (e i).len, (λ i. (e i).protocol, (λ i. (e i).flow, (λ i. (e i).used, (λ i. (e i).count, (λ i. (e i).name, (λ i. (e i).bytes, λ i. (e i).items)))))))

  pub same_table_exactly : (same_table t u ≡ true) ↔ (t ≡ u)
  same_table_exactly = Iff.trans fields_exactly (fields_table, table_fields)
