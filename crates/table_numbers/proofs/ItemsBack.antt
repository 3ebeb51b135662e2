-- An item can be told from its numbers and its offset (`item_back`): the first number says which of the ten cases it is, and the others what stands in it, an
-- enum by the place of its case among all.
use Rattle.std.specs.Prelude.{Option, Some, None}
use mathlib.Core.Path.{◌≡◌, refl}
use mathlib.Core.Bool.{Bool, true, false}
use mathlib.Core.List.{List, [], ◌∷◌}
use Prim.Native.Nat.{ℕ, zero, suc}
use lib.IntN.{ℤ}
use lib.ListN.{get_or}
use Rattle.definitions.specs.declared.table.Flow.{Flow}
use Rattle.definitions.specs.declared.table.Flow.TheVariants as flow
use Rattle.definitions.specs.declared.table.Side.{Side}
use Rattle.definitions.specs.declared.table.Side.TheVariants as side
use Rattle.definitions.specs.declared.table.NumberField.{NumberField}
use Rattle.definitions.specs.declared.table.NumberField.TheVariants as number_field
use Rattle.definitions.specs.declared.table.Order.{Order}
use Rattle.definitions.specs.declared.table.Order.TheVariants as order
use Rattle.definitions.specs.declared.table.HeaderField.{HeaderField}
use Rattle.definitions.specs.declared.table.HeaderField.TheVariants as header_field
use Rattle.definitions.specs.declared.table.Operator.{Operator}
use Rattle.definitions.specs.declared.table.Operator.TheVariants as operator
use Rattle.definitions.specs.declared.table.SizeField.{SizeField}
use Rattle.definitions.specs.declared.table.SizeField.TheVariants as size_field
use Rattle.definitions.specs.declared.table.Width.{Width}
use Rattle.definitions.specs.declared.table.Width.TheVariants as width
use Rattle.definitions.specs.declared.table.ByteOperator.{ByteOperator}
use Rattle.definitions.specs.declared.table.ByteOperator.TheVariants as byte_operator
use Rattle.definitions.specs.declared.table.Context.{Context}
use Rattle.definitions.specs.declared.table.Context.TheVariants as context
use Rattle.definitions.specs.declared.table.Reference.{Reference}
use Rattle.definitions.specs.declared.table.Reference.TheVariants as reference
use Rattle.definitions.specs.declared.table.Item.{Item}
use Rattle.definitions.specs.declared.table.Item.TheVariants as item
use Rattle.definitions.specs.declared.table.DistanceValue.{DistanceValue}
use Rattle.definitions.specs.declared.table.WithinValue.{WithinValue}
use Rattle.definitions.specs.ByteCounts.{byte_count, width_of}
use Rattle.definitions.specs.References.{context_number, reference_number}
use Rattle.table_numbers.specs.ItemNumbers as of

-- ---- which case it is

abbrev flag_of : ℕ → Bool
flag_of n = get_or (false ∷ true ∷ []) n false

flag_back : (b : Bool) → flag_of (of.flag_number b) ≡ b
flag_back false = refl
flag_back true = refl

abbrev pub flow_of : ℕ → Flow
flow_of n = get_or (flow.Any ∷ flow.FromClient ∷ flow.FromServer ∷ []) n flow.Any

pub flow_back : (f : Flow) → flow_of (of.flow_number f) ≡ f
flow_back flow.Any = refl
flow_back flow.FromClient = refl
flow_back flow.FromServer = refl

abbrev side_of : ℕ → Side
side_of n = get_or (side.Source ∷ side.Destination ∷ []) n side.Source

side_back : (s : Side) → side_of (of.side_number s) ≡ s
side_back side.Source = refl
side_back side.Destination = refl

abbrev number_field_of : ℕ → NumberField
number_field_of n = get_or (number_field.IpId ∷ number_field.SourcePort ∷ number_field.DestinationPort ∷ number_field.Tos ∷ []) n number_field.IpId

number_field_back : (f : NumberField) → number_field_of (of.number_field_number f) ≡ f
number_field_back number_field.IpId = refl
number_field_back number_field.SourcePort = refl
number_field_back number_field.DestinationPort = refl
number_field_back number_field.Tos = refl

abbrev order_of : ℕ → Order
order_of n = get_or (order.Equal ∷ order.Less ∷ order.Greater ∷ []) n order.Equal

order_back : (o : Order) → order_of (of.order_number o) ≡ o
order_back order.Equal = refl
order_back order.Less = refl
order_back order.Greater = refl

abbrev header_field_of : ℕ → HeaderField
header_field_of n = get_or (header_field.TotalLength ∷ header_field.Id ∷ header_field.Checksum ∷ header_field.Ttl ∷ []) n header_field.TotalLength

header_field_back : (f : HeaderField) → header_field_of (of.header_field_number f) ≡ f
header_field_back header_field.TotalLength = refl
header_field_back header_field.Id = refl
header_field_back header_field.Checksum = refl
header_field_back header_field.Ttl = refl

abbrev operator_of : ℕ → Operator
operator_of n =
    get_or (operator.Equal ∷ operator.Unequal ∷ operator.Less ∷ operator.Greater ∷ operator.AtMost ∷ operator.AtLeast ∷ []) n operator.Equal

operator_back : (o : Operator) → operator_of (of.operator_number o) ≡ o
operator_back operator.Equal = refl
operator_back operator.Unequal = refl
operator_back operator.Less = refl
operator_back operator.Greater = refl
operator_back operator.AtMost = refl
operator_back operator.AtLeast = refl

abbrev size_field_of : ℕ → SizeField
size_field_of n = get_or (size_field.Payload ∷ size_field.Uri ∷ size_field.Header ∷ size_field.Body ∷ []) n size_field.Payload

size_field_back : (f : SizeField) → size_field_of (of.size_field_number f) ≡ f
size_field_back size_field.Payload = refl
size_field_back size_field.Uri = refl
size_field_back size_field.Header = refl
size_field_back size_field.Body = refl

width_back : (w : Width) → width_of (byte_count w) ≡ w
width_back width.One = refl
width_back width.Two = refl
width_back width.Four = refl

abbrev byte_operator_of : ℕ → ByteOperator
byte_operator_of n = get_or (byte_operator.Greater ∷ byte_operator.Less ∷ byte_operator.Equal ∷ byte_operator.Unequal ∷ []) n byte_operator.Greater

byte_operator_back : (o : ByteOperator) → byte_operator_of (of.byte_operator_number o) ≡ o
byte_operator_back byte_operator.Greater = refl
byte_operator_back byte_operator.Less = refl
byte_operator_back byte_operator.Equal = refl
byte_operator_back byte_operator.Unequal = refl

abbrev context_of : ℕ → Context
context_of n =
    get_or (context.Packet ∷ context.Uri ∷ context.Header ∷ context.Body ∷ context.Banner ∷ context.Host ∷ context.File ∷ []) n context.Packet

context_back : (c : Context) → context_of (context_number c) ≡ c
context_back context.Packet = refl
context_back context.Uri = refl
context_back context.Header = refl
context_back context.Body = refl
context_back context.Banner = refl
context_back context.Host = refl
context_back context.File = refl

abbrev reference_of : ℕ → Reference
reference_of n = get_or (reference.Match ∷ reference.Packet ∷ reference.Context ∷ []) n reference.Match

reference_back : (r : Reference) → reference_of (reference_number r) ≡ r
reference_back reference.Match = refl
reference_back reference.Packet = refl
reference_back reference.Context = refl

-- ---- distance and within

abbrev distance_of : ℕ → ℕ → ℤ → Option DistanceValue
distance_of zero reverse z = None
distance_of (suc r) reverse z = Some (record { offset = z; reference = reference_of r; reverse = flag_of reverse })

distance_back : (d : Option DistanceValue) → distance_of (of.distance_reference d) (of.distance_reverse d) (of.distance_offset d) ≡ d
distance_back None = refl
distance_back (Some d) = rw (reference_back d.reference, flag_back d.reverse)

abbrev within_of : ℕ → ℕ → Option WithinValue
within_of zero n = None
within_of (suc r) n = Some (record { number = n; reference = reference_of r })

within_back : (w : Option WithinValue) → within_of (of.within_reference w) (of.within_number w) ≡ w
within_back None = refl
within_back (Some w) = rw (reference_back w.reference)

-- ---- the item

-- the item of case k, of the numbers a to h and the offset z
abbrev item_by : (k a b c d e f g h : ℕ) → ℤ → Item
item_by k a b c d e f g h z =
    get_or
    (item.Unused ∷ item.Address (record { side = side_of a; negated = flag_of b; count = c }) ∷ item.SameIp ∷
    item.Number (record { field = number_field_of a; number = b }) ∷ item.Ttl (record { order = order_of a; number = b }) ∷
    item.Field (record { field = header_field_of a; mask = b; operator = operator_of c; number = d }) ∷
    item.Size (record { order = order_of a; number = b; field = size_field_of c }) ∷ item.At (record { number = a; relative = flag_of b }) ∷
    item.Byte (record { width = width_of a; operator = byte_operator_of b; value = c; offset = d; relative = flag_of e; little = flag_of f }) ∷
    item.Pattern (record { negated = flag_of a; len = b; context = context_of c; nocase = flag_of d; distance = distance_of e f z; within = within_of g h }) ∷ [])
    k item.Unused

abbrev pub item_of : List ℕ → ℤ → Item
item_of l z = item_by (get_or l 0 0) (get_or l 1 0) (get_or l 2 0) (get_or l 3 0) (get_or l 4 0) (get_or l 5 0) (get_or l 6 0) (get_or l 7 0) (get_or l 8 0) z

pub item_back : (i : Item) → item_of (of.item_numbers i) (of.item_offset i) ≡ i
item_back item.Unused = refl
item_back (item.Address a) = rw (side_back a.side, flag_back a.negated)
item_back item.SameIp = refl
item_back (item.Number a) = rw (number_field_back a.field)
item_back (item.Ttl a) = rw (order_back a.order)
item_back (item.Field a) = rw (header_field_back a.field, operator_back a.operator)
item_back (item.Size a) = rw (order_back a.order, size_field_back a.field)
item_back (item.At a) = rw (flag_back a.relative)
item_back (item.Byte a) = rw (width_back a.width, byte_operator_back a.operator, flag_back a.relative, flag_back a.little)
item_back (item.Pattern p) =
    rw (flag_back p.negated, context_back p.context, flag_back p.nocase, distance_back p.distance, within_back p.within)
