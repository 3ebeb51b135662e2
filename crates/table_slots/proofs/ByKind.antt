-- How many addresses an item that fits has in use.
use mathlib.Core.Path.{◌≡◌}
use mathlib.Core.Bool.{true}
use Prim.Native.Nat.{◌≤◌}
use native.Mathlib.Omega.{arith}
use lib.Dec.{leb}
use borrow.Author.Tests.{leb-true}
use Rattle.definitions.specs.declared.table.Item.{Item}
use Rattle.definitions.specs.declared.table.Item.TheVariants as item
use Rattle.definitions.specs.Limits.{max_addresses}
use Rattle.definitions.specs.Items.{kind_of}
use Rattle.definitions.specs.WellFormed.{address_count, item_fits}
use Rattle.forms.proofs.Bools.{both_right}

pub few_addresses_lem : (it : Item) → item_fits it ≡ true → address_count (kind_of it) ≤ max_addresses
unfolding item_fits
few_addresses_lem item.Unused e = omega arith
few_addresses_lem (item.Address t) e = leb-true t.count max_addresses (both_right (leb 1 t.count) (leb t.count max_addresses) e)
few_addresses_lem item.SameIp e = omega arith
few_addresses_lem (item.Number t) e = omega arith
few_addresses_lem (item.Ttl t) e = omega arith
few_addresses_lem (item.Field t) e = omega arith
few_addresses_lem (item.Size t) e = omega arith
few_addresses_lem (item.At t) e = omega arith
few_addresses_lem (item.Byte t) e = omega arith
few_addresses_lem (item.Pattern t) e = omega arith
