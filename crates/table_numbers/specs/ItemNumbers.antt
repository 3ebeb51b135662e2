-- AN ITEM IN NUMBERS: its case, all that stands in it, and zeros up to nine; the offset of a distance, which has a sign, stands beside them. Two items are one
-- if both are (proofs/ItemsBack.antt: an item can be told from them).
use Rattle.std.specs.Prelude.{ℕ, suc, Bool, true, false, List, [], ◌∷◌, ℤ, pos, Option, Some, None}
use Rattle.definitions.specs.declared.table.Flow.{Flow}
use Rattle.definitions.specs.declared.table.Flow.TheVariants as flow
use Rattle.definitions.specs.declared.table.Side.{Side}
use Rattle.definitions.specs.declared.table.Side.TheVariants as side
use Rattle.definitions.specs.declared.table.NumberField.{NumberField}
use Rattle.definitions.specs.declared.table.NumberField.TheVariants as number_field
use Rattle.definitions.specs.declared.table.Order.{Order}
use Rattle.definitions.specs.declared.table.Order.TheVariants as order
use Rattle.definitions.specs.declared.table.HeaderField.{HeaderField}
use Rattle.definitions.specs.declared.table.HeaderField.TheVariants as header_field
use Rattle.definitions.specs.declared.table.Operator.{Operator}
use Rattle.definitions.specs.declared.table.Operator.TheVariants as operator
use Rattle.definitions.specs.declared.table.SizeField.{SizeField}
use Rattle.definitions.specs.declared.table.SizeField.TheVariants as size_field
use Rattle.definitions.specs.declared.table.ByteOperator.{ByteOperator}
use Rattle.definitions.specs.declared.table.ByteOperator.TheVariants as byte_operator
use Rattle.definitions.specs.declared.table.Item.{Item}
use Rattle.definitions.specs.declared.table.Item.TheVariants as item
use Rattle.definitions.specs.declared.table.DistanceValue.{DistanceValue}
use Rattle.definitions.specs.declared.table.WithinValue.{WithinValue}
use Rattle.definitions.specs.ByteCounts.{byte_count}
use Rattle.definitions.specs.References.{context_number, reference_number}

-- ---- which case it is

abbrev pub flag_number : Bool → ℕ
flag_number false = 0
flag_number true = 1

abbrev pub flow_number : Flow → ℕ
flow_number flow.Any = 0
flow_number flow.FromClient = 1
flow_number flow.FromServer = 2

abbrev pub side_number : Side → ℕ
side_number side.Source = 0
side_number side.Destination = 1

abbrev pub number_field_number : NumberField → ℕ
number_field_number number_field.IpId = 0
number_field_number number_field.SourcePort = 1
number_field_number number_field.DestinationPort = 2
number_field_number number_field.Tos = 3

abbrev pub order_number : Order → ℕ
order_number order.Equal = 0
order_number order.Less = 1
order_number order.Greater = 2

abbrev pub header_field_number : HeaderField → ℕ
header_field_number header_field.TotalLength = 0
header_field_number header_field.Id = 1
header_field_number header_field.Checksum = 2
header_field_number header_field.Ttl = 3

abbrev pub operator_number : Operator → ℕ
operator_number operator.Equal = 0
operator_number operator.Unequal = 1
operator_number operator.Less = 2
operator_number operator.Greater = 3
operator_number operator.AtMost = 4
operator_number operator.AtLeast = 5

abbrev pub size_field_number : SizeField → ℕ
size_field_number size_field.Payload = 0
size_field_number size_field.Uri = 1
size_field_number size_field.Header = 2
size_field_number size_field.Body = 3

abbrev pub byte_operator_number : ByteOperator → ℕ
byte_operator_number byte_operator.Greater = 0
byte_operator_number byte_operator.Less = 1
byte_operator_number byte_operator.Equal = 2
byte_operator_number byte_operator.Unequal = 3

-- ---- distance and within: 0 for the reference where they are not given

abbrev pub distance_reference : Option DistanceValue → ℕ
distance_reference None = 0
distance_reference (Some d) = suc (reference_number d.reference)

abbrev pub distance_reverse : Option DistanceValue → ℕ
distance_reverse None = 0
distance_reverse (Some d) = flag_number d.reverse

abbrev pub distance_offset : Option DistanceValue → ℤ
distance_offset None = pos 0
distance_offset (Some d) = d.offset

abbrev pub within_reference : Option WithinValue → ℕ
within_reference None = 0
within_reference (Some w) = suc (reference_number w.reference)

abbrev pub within_number : Option WithinValue → ℕ
within_number None = 0
within_number (Some w) = w.number

-- ---- the item

abbrev pub item_numbers : Item → List ℕ
item_numbers item.Unused = 0 ∷ 0 ∷ 0 ∷ 0 ∷ 0 ∷ 0 ∷ 0 ∷ 0 ∷ 0 ∷ []
item_numbers (item.Address a) = 1 ∷ side_number a.side ∷ flag_number a.negated ∷ a.count ∷ 0 ∷ 0 ∷ 0 ∷ 0 ∷ 0 ∷ []
item_numbers item.SameIp = 2 ∷ 0 ∷ 0 ∷ 0 ∷ 0 ∷ 0 ∷ 0 ∷ 0 ∷ 0 ∷ []
item_numbers (item.Number a) = 3 ∷ number_field_number a.field ∷ a.number ∷ 0 ∷ 0 ∷ 0 ∷ 0 ∷ 0 ∷ 0 ∷ []
item_numbers (item.Ttl a) = 4 ∷ order_number a.order ∷ a.number ∷ 0 ∷ 0 ∷ 0 ∷ 0 ∷ 0 ∷ 0 ∷ []
item_numbers (item.Field a) = 5 ∷ header_field_number a.field ∷ a.mask ∷ operator_number a.operator ∷ a.number ∷ 0 ∷ 0 ∷ 0 ∷ 0 ∷ []
item_numbers (item.Size a) = 6 ∷ order_number a.order ∷ a.number ∷ size_field_number a.field ∷ 0 ∷ 0 ∷ 0 ∷ 0 ∷ 0 ∷ []
item_numbers (item.At a) = 7 ∷ a.number ∷ flag_number a.relative ∷ 0 ∷ 0 ∷ 0 ∷ 0 ∷ 0 ∷ 0 ∷ []
item_numbers (item.Byte a) =
    8 ∷ byte_count a.width ∷ byte_operator_number a.operator ∷ a.value ∷ a.offset ∷ flag_number a.relative ∷ flag_number a.little ∷ 0 ∷ 0 ∷ []
item_numbers (item.Pattern p) =
    9 ∷ flag_number p.negated ∷ p.len ∷ context_number p.context ∷ flag_number p.nocase ∷ distance_reference p.distance ∷
    distance_reverse p.distance ∷ within_reference p.within ∷ within_number p.within ∷ []

abbrev pub item_offset : Item → ℤ
item_offset item.Unused = pos 0
item_offset (item.Address a) = pos 0
item_offset item.SameIp = pos 0
item_offset (item.Number a) = pos 0
item_offset (item.Ttl a) = pos 0
item_offset (item.Field a) = pos 0
item_offset (item.Size a) = pos 0
item_offset (item.At a) = pos 0
item_offset (item.Byte a) = pos 0
item_offset (item.Pattern p) = distance_offset p.distance
