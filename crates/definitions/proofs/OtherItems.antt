-- An item that is no pattern is one of the other nine: what holds of their three kinds holds of its kind.
use mathlib.Core.Path.{◌≡◌, refl}
use Rattle.definitions.specs.declared.table.AddressTest.{AddressTest}
use Rattle.definitions.specs.declared.table.Pattern.{Pattern}
use Rattle.definitions.specs.declared.table.Item.{Item}
use Rattle.definitions.specs.declared.table.Item.TheVariants as item
use Rattle.definitions.specs.Items.{Kind, unused, addressed, plain_test, kind_of}

pub other_kind : (P : Kind → Type 0) → P unused → ((a : AddressTest) → P (addressed a)) → P plain_test → (it : Item)
    → ((q : Pattern) → it ≡ item.Pattern q → ⊥) → P (kind_of it)
other_kind P u a p item.Unused k = u
other_kind P u a p (item.Address t) k = a t
other_kind P u a p item.SameIp k = p
other_kind P u a p (item.Number t) k = p
other_kind P u a p (item.Ttl t) k = p
other_kind P u a p (item.Field t) k = p
other_kind P u a p (item.Size t) k = p
other_kind P u a p (item.At t) k = p
other_kind P u a p (item.Byte t) k = p
other_kind P u a p (item.Pattern q) k = absurd (k q refl)
