-- `==` as it is derived is equality: of an enum without fields, since its cases have different numbers, of a struct by its fields, and of an enum by its cases.
use Rattle.std.specs.Prelude.{Option, Some, None}
use mathlib.Core.Path.{◌≡◌, refl, sym, ap}
use mathlib.Core.Logic.Iff
use mathlib.Core.Logic.{inl, inr}
use mathlib.Core.Bool.{Bool, true, false, true≢false}
use mathlib.Core.List.{List, [], ◌∷◌}
use denote.Struct.Field.{Field}
use denote.Struct.Values.{Values}
use denote.Enum.Declared.{Record, Declared, Choice, values_one}
use denote.Enum.Compared.{Each, by}
use denote.Enum.Bare.{Bare, sameb, same_true, true_same}
use Rattle.std.specs.Bool.{Decides}
use Rattle.std.specs.Cmp.{booleans_Decides, signed_Decides, unsigned_Decides}
use Rattle.std.specs.Cmp.Derive.{of_values}
use Rattle.std.specs.Cmp.Lexicographic.{bytes_decides, pointwise_decides}
use Rattle.std.specs.Option.{option_eq}
use Rattle.definitions.specs.contracts.table.Side as side
use Rattle.definitions.specs.contracts.table.NumberField as number_field
use Rattle.definitions.specs.contracts.table.Order as order
use Rattle.definitions.specs.contracts.table.HeaderField as header_field
use Rattle.definitions.specs.contracts.table.Operator as operator
use Rattle.definitions.specs.contracts.table.SizeField as size_field
use Rattle.definitions.specs.contracts.table.Width as width
use Rattle.definitions.specs.contracts.table.ByteOperator as byte_operator
use Rattle.definitions.specs.contracts.table.Context as context
use Rattle.definitions.specs.contracts.table.Reference as reference
use Rattle.definitions.specs.contracts.table.Flow as flow
use Rattle.definitions.specs.declared.table.Flow.{Flow}
use Rattle.definitions.specs.contracts.table.Item as item_type
use Rattle.definitions.specs.declared.table.AddressTest.{AddressTest}
use Rattle.definitions.specs.contracts.table.AddressTestPartialEq.TheImpl as address_test
use Rattle.definitions.specs.declared.table.NumberTest.{NumberTest}
use Rattle.definitions.specs.contracts.table.NumberTestPartialEq.TheImpl as number_test
use Rattle.definitions.specs.declared.table.TtlTest.{TtlTest}
use Rattle.definitions.specs.contracts.table.TtlTestPartialEq.TheImpl as ttl_test
use Rattle.definitions.specs.declared.table.FieldTest.{FieldTest}
use Rattle.definitions.specs.contracts.table.FieldTestPartialEq.TheImpl as field_test
use Rattle.definitions.specs.declared.table.SizeTest.{SizeTest}
use Rattle.definitions.specs.contracts.table.SizeTestPartialEq.TheImpl as size_test
use Rattle.definitions.specs.declared.table.AtTest.{AtTest}
use Rattle.definitions.specs.contracts.table.AtTestPartialEq.TheImpl as at_test
use Rattle.definitions.specs.declared.table.ByteTest.{ByteTest}
use Rattle.definitions.specs.contracts.table.ByteTestPartialEq.TheImpl as byte_test
use Rattle.definitions.specs.declared.table.DistanceValue.{DistanceValue}
use Rattle.definitions.specs.contracts.table.DistanceValuePartialEq.TheImpl as distance_value
use Rattle.definitions.specs.declared.table.WithinValue.{WithinValue}
use Rattle.definitions.specs.contracts.table.WithinValuePartialEq.TheImpl as within_value
use Rattle.definitions.specs.declared.table.Pattern.{Pattern}
use Rattle.definitions.specs.contracts.table.PatternPartialEq.TheImpl as pattern
use Rattle.definitions.specs.declared.table.Address.{Address}
use Rattle.definitions.specs.contracts.table.AddressPartialEq.TheImpl as address
use Rattle.definitions.specs.declared.table.Slot.{Slot}
use Rattle.definitions.specs.contracts.table.SlotPartialEq.TheImpl as slot
use Rattle.definitions.specs.declared.table.Table.{Table}
use Rattle.definitions.specs.contracts.table.TablePartialEq.TheImpl as table
use Rattle.definitions.specs.declared.table.Item.{Item}
use Rattle.definitions.specs.contracts.table.ItemPartialEq.TheImpl as item
use Rattle.table_equality.proofs.SameLists.{both_exactly}

-- ---- enums and options

abbrev Exacts : (Fss : List (List Field)) → Each Bool Fss → Type 0
Exacts [] es = Unit {0}
Exacts (Fs ∷ Fss) es = ((x y : Values Fs) → Decides (es.0 x y) (x ≡ y)) × Exacts Fss es.1

choices_exact : (Fss : List (List Field)) (es : Each Bool Fss) → Exacts Fss es → (c d : Choice Fss) → Decides (by false false Fss es c d) (c ≡ d)
choices_exact [] es all c d = absurd c
choices_exact (Fs ∷ Fss) es all (inl x) (inl y) = let k = all.0 x y in (λ e. ap inl (k.0 e), λ e. k.1 cc)
choices_exact (Fs ∷ Fss) es all (inl x) (inr y) = (λ e. absurd (true≢false (sym e)), λ e. absurd cc)
choices_exact (Fs ∷ Fss) es all (inr x) (inl y) = (λ e. absurd (true≢false (sym e)), λ e. absurd cc)
choices_exact (Fs ∷ Fss) es all (inr x) (inr y) = let k = choices_exact Fss es.1 all.1 x y in (λ e. ap inr (k.0 e), λ e. k.1 cc)

-- where `==` at each case's fields is equality
by_exact : (N : Record) (es : Each Bool N.parts) → Exacts N.parts es → (x y : N.D) → Decides (of_values N false false es x y) (x ≡ y)
by_exact N es all x y =
    let k = choices_exact N.parts es all (N.as_values x) (N.as_values y) in (λ e. values_one N x y (k.0 e), λ e. k.1 (ap N.as_values e))

-- a case without a field, and one with a field
none_exact : (x y : Unit {0}) → Decides true (x ≡ y)
none_exact x y = (λ e. refl, λ e. refl)

one_exact : {A : Type 0} {E : A → A → Bool} → ((a b : A) → Decides (E a b) (a ≡ b)) → (x y : A × Unit {0}) → Decides (E x.0 y.0) (x ≡ y)
one_exact k x y = (λ e. λ i. ((k x.0 y.0).0 e i, tt), λ e. (k x.0 y.0).1 (λ i. (e i).0))

option_exact : {A : Type 0} {E : A → A → Bool} → ((a b : A) → Decides (E a b) (a ≡ b)) → (x y : Option A) → Decides (option_eq E x y) (x ≡ y)
option_exact k None None = (λ e. refl, λ e. refl)
option_exact k None (Some y) = (λ e. absurd (true≢false (sym e)), λ e. absurd cc)
option_exact k (Some x) None = (λ e. absurd (true≢false (sym e)), λ e. absurd cc)
option_exact k (Some x) (Some y) = (λ e. ap Some ((k x y).0 e), λ e. (k x y).1 cc)

-- an enum without fields
bare_exact : (D : Declared) → Bare D.parts → (x y : D.D) → Decides (sameb D x y) (x ≡ y)
bare_exact D bare x y = (same_true D bare x y, true_same D x y)

-- ---- what stands in an item

address_test_exact : (a b : AddressTest) → Decides (address_test.ghosts.eq a b) (a ≡ b)
address_test_exact a b =
    Iff.trans (both_exactly _ _ (bare_exact side.the_type tt a.side b.side)
    (both_exactly _ _ (booleans_Decides a.negated b.negated) (unsigned_Decides a.count b.count))) (
      λ (side, (negated, count)). λ i. record { side = side i; negated = negated i; count = count i },
      λ e. ((λ i. (e i).side), ((λ i. (e i).negated), (λ i. (e i).count))),
    )

number_test_exact : (a b : NumberTest) → Decides (number_test.ghosts.eq a b) (a ≡ b)
number_test_exact a b =
    Iff.trans (both_exactly _ _ (bare_exact number_field.the_type tt a.field b.field) (unsigned_Decides a.number b.number))
    (λ (field, number). λ i. record { field = field i; number = number i }, λ e. ((λ i. (e i).field), (λ i. (e i).number)))

ttl_test_exact : (a b : TtlTest) → Decides (ttl_test.ghosts.eq a b) (a ≡ b)
ttl_test_exact a b =
    Iff.trans (both_exactly _ _ (bare_exact order.the_type tt a.order b.order) (unsigned_Decides a.number b.number))
    (λ (order, number). λ i. record { order = order i; number = number i }, λ e. ((λ i. (e i).order), (λ i. (e i).number)))

field_test_exact : (a b : FieldTest) → Decides (field_test.ghosts.eq a b) (a ≡ b)
field_test_exact a b =
    Iff.trans (both_exactly _ _ (bare_exact header_field.the_type tt a.field b.field) (both_exactly _ _ (unsigned_Decides a.mask b.mask)
    (both_exactly _ _ (bare_exact operator.the_type tt a.operator b.operator) (unsigned_Decides a.number b.number)))) (
      λ (field, (mask, (operator, number))). λ i. record { field = field i; mask = mask i; operator = operator i; number = number i },
      λ e. ((λ i. (e i).field), ((λ i. (e i).mask), ((λ i. (e i).operator), (λ i. (e i).number)))),
    )

size_test_exact : (a b : SizeTest) → Decides (size_test.ghosts.eq a b) (a ≡ b)
size_test_exact a b =
    Iff.trans (both_exactly _ _ (bare_exact order.the_type tt a.order b.order)
    (both_exactly _ _ (unsigned_Decides a.number b.number) (bare_exact size_field.the_type tt a.field b.field))) (
      λ (order, (number, field)). λ i. record { order = order i; number = number i; field = field i },
      λ e. ((λ i. (e i).order), ((λ i. (e i).number), (λ i. (e i).field))),
    )

at_test_exact : (a b : AtTest) → Decides (at_test.ghosts.eq a b) (a ≡ b)
at_test_exact a b =
    Iff.trans (both_exactly _ _ (unsigned_Decides a.number b.number) (booleans_Decides a.relative b.relative))
    (λ (number, relative). λ i. record { number = number i; relative = relative i }, λ e. ((λ i. (e i).number), (λ i. (e i).relative)))

byte_test_exact : (a b : ByteTest) → Decides (byte_test.ghosts.eq a b) (a ≡ b)
byte_test_exact a b =
    Iff.trans (both_exactly _ _ (bare_exact width.the_type tt a.width b.width)
    (both_exactly _ _ (bare_exact byte_operator.the_type tt a.operator b.operator) (both_exactly _ _ (unsigned_Decides a.value b.value)
    (both_exactly _ _ (unsigned_Decides a.offset b.offset) (both_exactly _ _ (booleans_Decides a.relative b.relative) (booleans_Decides a.little b.little)))))) (
      λ (width, (operator, (value, (offset, (relative, little))))). λ i. record {
        width = width i;
        operator = operator i;
        value = value i;
        offset = offset i;
        relative = relative i;
        little = little i;
      },
      λ e. ((λ i. (e i).width), ((λ i. (e i).operator), ((λ i. (e i).value), ((λ i. (e i).offset), ((λ i. (e i).relative), (λ i. (e i).little)))))),
    )

distance_value_exact : (a b : DistanceValue) → Decides (distance_value.ghosts.eq a b) (a ≡ b)
distance_value_exact a b =
    Iff.trans (both_exactly _ _ (signed_Decides a.offset b.offset)
    (both_exactly _ _ (bare_exact reference.the_type tt a.reference b.reference) (booleans_Decides a.reverse b.reverse))) (
      λ (offset, (reference, reverse)). λ i. record { offset = offset i; reference = reference i; reverse = reverse i },
      λ e. ((λ i. (e i).offset), ((λ i. (e i).reference), (λ i. (e i).reverse))),
    )

within_value_exact : (a b : WithinValue) → Decides (within_value.ghosts.eq a b) (a ≡ b)
within_value_exact a b =
    Iff.trans (both_exactly _ _ (unsigned_Decides a.number b.number) (bare_exact reference.the_type tt a.reference b.reference))
    (λ (number, reference). λ i. record { number = number i; reference = reference i }, λ e. ((λ i. (e i).number), (λ i. (e i).reference)))

pattern_exact : (a b : Pattern) → Decides (pattern.ghosts.eq a b) (a ≡ b)
pattern_exact a b =
    Iff.trans (both_exactly _ _ (booleans_Decides a.negated b.negated) (both_exactly _ _ (unsigned_Decides a.len b.len)
    (both_exactly _ _ (bare_exact context.the_type tt a.context b.context) (both_exactly _ _ (booleans_Decides a.nocase b.nocase)
    (both_exactly _ _ (option_exact distance_value_exact a.distance b.distance) (option_exact within_value_exact a.within b.within)))))) (
      λ (negated, (len, (context, (nocase, (distance, within))))). λ i. record {
        negated = negated i;
        len = len i;
        context = context i;
        nocase = nocase i;
        distance = distance i;
        within = within i;
      },
      λ e. ((λ i. (e i).negated), ((λ i. (e i).len), ((λ i. (e i).context), ((λ i. (e i).nocase), ((λ i. (e i).distance), (λ i. (e i).within)))))),
    )

-- ---- items, slots, tables

pub item_exact : (a b : Item) → Decides (item.ghosts.eq a b) (a ≡ b)
item_exact = by_exact item_type.enum _ (
  none_exact,
  (
    one_exact address_test_exact,
    (
      none_exact,
      (
        one_exact number_test_exact,
        (
          one_exact ttl_test_exact,
          (
            one_exact field_test_exact,
            (one_exact size_test_exact, (one_exact at_test_exact, (one_exact byte_test_exact, (one_exact pattern_exact, tt)))),
          ),
        ),
      ),
    ),
  ),
)

address_exact : (a b : Address) → Decides (address.ghosts.eq a b) (a ≡ b)
address_exact a b =
    Iff.trans (both_exactly _ _ (unsigned_Decides a.number b.number) (unsigned_Decides a.prefix b.prefix))
    (λ (number, prefix). λ i. record { number = number i; prefix = prefix i }, λ e. ((λ i. (e i).number), (λ i. (e i).prefix)))

pub slot_exact : (a b : Slot) → Decides (slot.ghosts.eq a b) (a ≡ b)
slot_exact a b =
    Iff.trans (both_exactly _ _ (item_exact a.item b.item) (pointwise_decides address_exact a.addresses b.addresses))
    (λ (item, addresses). λ i. record { item = item i; addresses = addresses i }, λ e. ((λ i. (e i).item), (λ i. (e i).addresses)))

pub flow_exact : (f g : Flow) → Decides (sameb flow.the_type f g) (f ≡ g)
flow_exact f g = bare_exact flow.the_type tt f g

pub table_exact : (a b : Table) → Decides (table.ghosts.eq a b) (a ≡ b)
table_exact a b =
    Iff.trans (both_exactly _ _ (bytes_decides a.name b.name) (both_exactly _ _ (unsigned_Decides a.len b.len)
    (both_exactly _ _ (unsigned_Decides a.protocol b.protocol) (both_exactly _ _ (flow_exact a.flow b.flow)
    (both_exactly _ _ (bytes_decides a.bytes b.bytes) (both_exactly _ _ (unsigned_Decides a.used b.used)
    (both_exactly _ _ (pointwise_decides slot_exact a.items b.items) (unsigned_Decides a.count b.count)))))))) (
      λ (name, (len, (protocol, (flow, (bytes, (used, (items, count))))))). λ i. record {
        name = name i;
        len = len i;
        protocol = protocol i;
        flow = flow i;
        bytes = bytes i;
        used = used i;
        items = items i;
        count = count i;
      },
      λ e. (
        (λ i. (e i).name),
        (
          (λ i. (e i).len),
          (
            (λ i. (e i).protocol),
            (
              (λ i. (e i).flow),
              (
                (λ i. (e i).bytes),
                (
                  (λ i. (e i).used),
                  ((λ i. (e i).items), (λ i. (e i).count)),
                ),
              ),
            ),
          ),
        ),
      ),
    )
