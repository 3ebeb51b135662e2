-- When a test holds. Section "Meaning".
use Rattle.std.specs.Prelude.{ℕ, ◌+◌, ◌-◌, ◌/◌, ◌^◌, Bool, true, false, not, ◌&&◌, ◌||◌, List, [], ◌∷◌, reverse, length, take, drop, eqb, ltb, leb, if◌then◌else◌, Option, Some, None}
use Rattle.std.specs.Int.Bits.{bit_and}
use Rattle.definitions.specs.declared.table.Flow.{Flow}
use Rattle.definitions.specs.declared.table.Flow.TheVariants as flow
use Rattle.definitions.specs.declared.table.Side.{Side}
use Rattle.definitions.specs.declared.table.Side.TheVariants as side
use Rattle.definitions.specs.declared.table.NumberField.{NumberField}
use Rattle.definitions.specs.declared.table.NumberField.TheVariants as number_field
use Rattle.definitions.specs.declared.table.Order.{Order}
use Rattle.definitions.specs.declared.table.Order.TheVariants as order
use Rattle.definitions.specs.declared.table.HeaderField.{HeaderField}
use Rattle.definitions.specs.declared.table.HeaderField.TheVariants as header_field
use Rattle.definitions.specs.declared.table.Operator.{Operator}
use Rattle.definitions.specs.declared.table.Operator.TheVariants as operator
use Rattle.definitions.specs.declared.table.ByteOperator.{ByteOperator}
use Rattle.definitions.specs.declared.table.ByteOperator.TheVariants as byte_operator
use Rattle.definitions.specs.declared.table.Context.{Context}
use Rattle.definitions.specs.declared.table.Context.TheVariants as context
use Rattle.definitions.specs.declared.table.AddressTest.{AddressTest}
use Rattle.definitions.specs.declared.table.FieldTest.{FieldTest}
use Rattle.definitions.specs.declared.table.SizeTest.{SizeTest}
use Rattle.definitions.specs.declared.table.AtTest.{AtTest}
use Rattle.definitions.specs.declared.table.ByteTest.{ByteTest}
use Rattle.definitions.specs.declared.table.Item.{Item}
use Rattle.definitions.specs.declared.table.Item.TheVariants as item
use Rattle.definitions.specs.declared.table.Address.{Address}
use Rattle.definitions.specs.declared.packets.Direction.{Direction}
use Rattle.definitions.specs.declared.packets.Direction.TheVariants.{Client, Server}
use Rattle.definitions.specs.declared.packets.PacketHeader.{PacketHeader}
use Rattle.definitions.specs.declared.packets.Match.{Match}
use Rattle.definitions.specs.ByteCounts.{byte_count}
use Rattle.definitions.specs.Packet.{big_endian, has_ports}
use Rattle.definitions.specs.Fields.{View, size_context}

-- flow, if given
abbrev pub flow_holds : Flow → Direction → Bool
flow_holds flow.Any d = true
flow_holds flow.FromClient Client = true
flow_holds flow.FromClient Server = false
flow_holds flow.FromServer Client = false
flow_holds flow.FromServer Server = true

-- ---- tests of the header

-- Address: equal in the first n bits to one in the list; `!` turns the whole answer
abbrev pub packet_address : PacketHeader → Side → ℕ
packet_address f side.Source = f.source
packet_address f side.Destination = f.destination

abbrev pub same_bits : ℕ → ℕ → ℕ → Bool
same_bits n a b = eqb (a / 2 ^ (32 - n)) (b / 2 ^ (32 - n))

unfoldable pub in_addresses : ℕ → List Address → Bool
in_addresses x [] = false
in_addresses x (a ∷ l) = same_bits a.prefix x a.number || in_addresses x l

unfoldable pub address_holds : PacketHeader → AddressTest → List Address → Bool
address_holds f a l =
    if a.negated then not (in_addresses (packet_address f a.side) (take a.count l))
    else in_addresses (packet_address f a.side) (take a.count l)

-- ip_id, src_port, dst_port, ip_tos; a port test on other protocols than 6 and 17 doesn't hold. No table that is not refused holds an ip_id (document 02,
-- T-09): this is what it meant
unfoldable pub number_holds : PacketHeader → NumberField → ℕ → Bool
number_holds f number_field.IpId n = eqb f.id n
number_holds f number_field.SourcePort n = has_ports f.protocol && eqb f.sport n
number_holds f number_field.DestinationPort n = has_ports f.protocol && eqb f.dport n
number_holds f number_field.Tos n = eqb f.tos n

-- ip_ttl and data_size: x is compared with n
abbrev pub order_holds : Order → ℕ → ℕ → Bool
order_holds order.Equal x n = eqb x n
order_holds order.Less x n = ltb x n
order_holds order.Greater x n = ltb n x

-- Field test: field AND mask, compared
abbrev pub header_value : PacketHeader → HeaderField → ℕ
header_value f header_field.TotalLength = f.total
header_value f header_field.Id = f.id
header_value f header_field.Checksum = f.checksum
header_value f header_field.Ttl = f.ttl

abbrev pub operator_holds : Operator → ℕ → ℕ → Bool
operator_holds operator.Equal x n = eqb x n
operator_holds operator.Unequal x n = not (eqb x n)
operator_holds operator.Less x n = ltb x n
operator_holds operator.Greater x n = ltb n x
operator_holds operator.AtMost x n = leb x n
operator_holds operator.AtLeast x n = leb n x

unfoldable pub field_holds : PacketHeader → FieldTest → Bool
field_holds f t = operator_holds t.operator (bit_and (header_value f t.field) t.mask) t.number

-- ---- data_at and byte_test: what they are counted from. The payload's start; with relative the end of the last positive pattern before, in its field

abbrev pub at_context : Bool → Option Match → Context
at_context false l = context.Packet
at_context true None = context.Packet
at_context true (Some m) = m.context

abbrev pub at_start : Bool → Option Match → ℕ
at_start false l = 0
at_start true None = 0
at_start true (Some m) = m.end

-- data_at N (document 02, T-04): at least N bytes follow a start, in a field of so many bytes
abbrev pub data_follows : ℕ → ℕ → ℕ → Bool
data_follows n start len = leb (start + n) len

-- ---- byte_test (document 02, T-01)

-- `!` is not equal
abbrev pub compared_by : ByteOperator → Operator
compared_by byte_operator.Greater = operator.Greater
compared_by byte_operator.Less = operator.Less
compared_by byte_operator.Equal = operator.Equal
compared_by byte_operator.Unequal = operator.Unequal

-- the number that n bytes at a place write: big end first, or with little the same of the bytes reversed
abbrev pub big_end_first : Bool → List ℕ → List ℕ
big_end_first little l = if little then reverse l else l

unfoldable pub number_at : Bool → ℕ → List ℕ → ℕ → ℕ
number_at little n d at = big_endian n (big_end_first little (take n (drop at d))) 0

-- no byte lies past the end, and the bytes' number is compared with the value
unfoldable pub bytes_hold : ByteTest → ℕ → List ℕ → Bool
bytes_hold t at d =
    leb (at + byte_count t.width) (length d)
    && operator_holds (compared_by t.operator) (number_at t.little (byte_count t.width) d at) t.value

-- ---- every test; one on an absent field doesn't hold

module _ (v : View) where
  unfoldable pub size_holds : SizeTest → Bool
  size_holds t = v.present (size_context t.field) && order_holds t.order (length (v.field (size_context t.field))) t.number

  unfoldable pub at_holds : AtTest → Option Match → Bool
  at_holds t l =
      v.present (at_context t.relative l)
      && data_follows t.number (at_start t.relative l) (length (v.field (at_context t.relative l)))

  unfoldable pub byte_holds : ByteTest → Option Match → Bool
  byte_holds t l =
      v.present (at_context t.relative l)
      && bytes_hold t (at_start t.relative l + t.offset) (v.field (at_context t.relative l))

  -- a test, after the last positive pattern; a slot that is not in use, and a pattern, are no tests
  unfoldable pub test_holds : Item → List Address → Option Match → Bool
  test_holds item.Unused al l = false
  test_holds (item.Address a) al l = address_holds v.header a al
  test_holds item.SameIp al l = eqb v.header.source v.header.destination
  test_holds (item.Number t) al l = number_holds v.header t.field t.number
  test_holds (item.Ttl t) al l = order_holds t.order v.header.ttl t.number
  test_holds (item.Field t) al l = field_holds v.header t
  test_holds (item.Size t) al l = size_holds t
  test_holds (item.At t) al l = at_holds t l
  test_holds (item.Byte t) al l = byte_holds t l
  test_holds (item.Pattern p) al l = false
