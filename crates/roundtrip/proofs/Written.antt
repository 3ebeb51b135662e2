-- An option that fits is written as one space and an option's text of that option. For each row the text of the value is put together as its form is.
use mathlib.Core.Path.{◌≡◌, refl, sym, ap, ◌∙◌}
use mathlib.Core.Bool.{Bool, true, false, not, ◌&&◌, ◌||◌}
use mathlib.Core.List.{List, [], ◌∷◌, ◌++◌, append_assoc}
use Prim.Native.Nat.{ℕ, suc}
use lib.ListN.{length}
use lib.Dec.{eqb, leb}
use lib.IntN.{ℤ, pos, negsuc, nat_abs}
use borrow.Author.Tests.{eqb-true, leb-true}
use Rattle.forms.specs.Bytes.{text}
use Rattle.forms.specs.Form.{pair, Row, none}
use Rattle.forms.specs.Pieces.{preceded, terminated, or, opt, literal, literal_as, keyword, word}
use Rattle.forms.proofs.Bools.{by_cases, both_left, both_right}
use Rattle.forms.proofs.Sound.{never}
use Rattle.definitions.specs.declared.table.Flow as flows
use Rattle.definitions.specs.declared.table.Flow.TheVariants as flow
use Rattle.definitions.specs.declared.table.Order.{Order}
use Rattle.definitions.specs.declared.table.Order.TheVariants as order
use Rattle.definitions.specs.declared.table.Operator.{Operator}
use Rattle.definitions.specs.declared.table.Operator.TheVariants as operator
use Rattle.definitions.specs.declared.table.AddressTest.{AddressTest}
use Rattle.definitions.specs.declared.table.NumberTest.{NumberTest}
use Rattle.definitions.specs.declared.table.TtlTest.{TtlTest}
use Rattle.definitions.specs.declared.table.FieldTest.{FieldTest}
use Rattle.definitions.specs.declared.table.SizeTest.{SizeTest}
use Rattle.definitions.specs.declared.table.AtTest.{AtTest}
use Rattle.definitions.specs.declared.table.ByteTest.{ByteTest}
use Rattle.definitions.specs.declared.table.Width.{Width}
use Rattle.definitions.specs.declared.table.Width.TheVariants.{One, Two, Four}
use Rattle.definitions.specs.declared.table.ByteOperator.{ByteOperator}
use Rattle.definitions.specs.declared.table.ByteOperator.TheVariants as byte_operator
use Rattle.definitions.specs.declared.table.SizeField.{SizeField}
use Rattle.definitions.specs.declared.table.SizeField.TheVariants as size_field
use Rattle.definitions.specs.declared.table.Context as contexts
use Rattle.definitions.specs.declared.table.Context.TheVariants as context
use Rattle.definitions.specs.declared.table.Reference.{Reference}
use Rattle.definitions.specs.declared.table.Reference.TheVariants as reference
use Rattle.definitions.specs.declared.table.WithinValue.{WithinValue}
use Rattle.definitions.specs.declared.table.Item.{Item}
use Rattle.definitions.specs.declared.table.Item.TheVariants as item
use Rattle.definitions.specs.declared.table.Address.{Address}
use Rattle.definitions.specs.Limits.{max_byte, max_word, max_long}
use Rattle.definitions.specs.Lists.{none?}
use Rattle.definitions.specs.OptionValues.{Context, NoCase, Distance, Within, OptionValue, Name, Protocol, Flow, Test, Pattern, Modified}
use Rattle.definitions.specs.Numbers.{numeral}
use Rattle.definitions.specs.Forms.{quotable, spaces, comma, negation, address_test, test, less_or_greater, comparison, max_field, max_number, reference_word, signed}
use Rattle.definitions.specs.Forms.{width, byte_comparison, flags, byte_test}
use Rattle.definitions.specs.ByteCounts.{is_byte_count, byte_count, width_of}
use Rattle.definitions.specs.Items.{addressed, kind_of}
use Rattle.definitions.specs.References.{same_reference}
use Rattle.definitions.specs.Canonical.{decimal, text_if, negated_text, order_text, operator_text, field_text, size_field_text, byte_operator_text, comparison_text, byte_text, context_text, reference_text}
use Rattle.definitions.specs.Canonical.{test_text, modifier_text, option_text}
use Rattle.definitions.specs.WellFormed.{item_fits}
use Rattle.laws.proofs.OldKind.{number_known}
use Rattle.syntax.proofs.Truths.{impossible}
use Rattle.roundtrip.proofs.AllTests.{halves}
use Rattle.roundtrip.proofs.Addressed.{addresses_of}
use Rattle.roundtrip.proofs.Blocks.{pattern_of_lem}
use Rattle.roundtrip.proofs.Decimals.{number_that_of, number_of, numeral_of}
use Rattle.roundtrip.proofs.Fits.{number_limited, flow_fits, test_fits, option_fits, option_writable}
use Rattle.roundtrip.proofs.Listed.{Written, row_written, name_row, protocol_row, flow_row, side_row, same_ip_row, number_row, ttl_row}
use Rattle.roundtrip.proofs.Listed.{field_row, size_row, at_row, byte_row, pattern_row, context_row, no_case_row, distance_row, within_row}
use Rattle.roundtrip.proofs.Making.{Of, retexts, revalues, pure_of, fmap_of, bound_of, preceded_of, terminated_of, both_of}
use Rattle.roundtrip.proofs.Making.{alt_left, alt_right, many_of, literal_of, literal_as-of}
use Rattle.roundtrip.proofs.Making.{words, some_bytes, closes, values}

-- ---- pieces

negation_of : (n : Bool) → Of negation (negated_text n) n
negation_of true = alt_left (literal_as-of 33 true)
negation_of false = alt_right pure_of

order_of : (o : Order) → Of (opt order.Equal less_or_greater) (order_text o) o
order_of order.Equal = alt_right pure_of
order_of order.Less = alt_left (alt_left (literal_as-of 60 order.Less))
order_of order.Greater = alt_left (alt_right (literal_as-of 62 order.Greater))

-- ---- name, protocol, flow

name_written : (n : List ℕ) → option_fits (Name n) ≡ true → Written (option_text (Name n)) (Name n)
unfolding option_text
name_written n t =
    let h = halves t in
    let g = halves h.0 in
    row_written name_row
    (values (fmap_of {h = Name} (bound_of g.1
    (preceded_of (literal_of 34) (terminated_of (some_bytes quotable n (leb-true 1 (length n) g.0) h.1) (literal_of 34))))))

protocol_written : (p : ℕ) → option_fits (Protocol p) ≡ true → Written (option_text (Protocol p)) (Protocol p)
unfolding option_text
protocol_written p t = row_written protocol_row (values (fmap_of {h = Protocol} (alt_right (alt_right (alt_right (number_of max_byte p t))))))

flow_written : (f : flows.Flow) → flow_fits f ≡ true → Written (option_text (Flow f)) (Flow f)
unfolding option_text
flow_written flow.Any t = impossible (cc)
flow_written flow.FromClient t =
    row_written flow_row (values (fmap_of {h = Flow} (preceded_of (words (text "from_") 0) (alt_left (words (text "client") flow.FromClient)))))
flow_written flow.FromServer t =
    row_written flow_row (values (fmap_of {h = Flow} (preceded_of (words (text "from_") 0) (alt_right (words (text "server") flow.FromServer)))))

-- ---- tests

operator_of_lem : (o : Operator) → Of comparison (operator_text o) o
operator_of_lem operator.Equal = alt_left (literal_as-of 61 operator.Equal)
operator_of_lem operator.Unequal = alt_right (alt_left (preceded_of (literal_of 33) (literal_as-of 61 operator.Unequal)))
operator_of_lem operator.Less = alt_right (alt_right (alt_left (preceded_of (literal_of 60) (alt_right pure_of))))
operator_of_lem operator.Greater = alt_right (alt_right (alt_right (preceded_of (literal_of 62) (alt_right pure_of))))
operator_of_lem operator.AtMost = alt_right (alt_right (alt_left (preceded_of (literal_of 60) (alt_left (literal_as-of 61 operator.AtMost)))))
operator_of_lem operator.AtLeast = alt_right (alt_right (alt_right (preceded_of (literal_of 62) (alt_left (literal_as-of 61 operator.AtLeast)))))

-- a full mask is left out
mask_of : (limit n : ℕ) → leb n limit ≡ true
    → Of (opt limit (preceded (literal 38) (preceded spaces (terminated (numeral limit) spaces))))
    (text_if (not (eqb n limit)) (text "& " ++ (decimal n ++ text " "))) n
mask_of limit n t =
    by_cases (eqb n limit)
    (λ u. rw u (alt_right (revalues (sym (eqb-true n limit u)) pure_of)))
    (λ u.
    let space = many_of (Row.more (literal_of 32) none) in
    rw u (alt_left (preceded_of (literal_of 38) (preceded_of space (terminated_of (numeral_of limit n t) space)))))

size_of : (f : SizeField)
    → Of (comma size_field.Payload
    (or (keyword (text "payload") size_field.Payload)
    (or (keyword (text "uri") size_field.Uri) (or (keyword (text "header") size_field.Header) (keyword (text "body") size_field.Body))))) (size_field_text f) f
size_of size_field.Payload = alt_right pure_of
size_of size_field.Uri = alt_left (preceded_of (literal_of 44) (alt_right (alt_left (words (text "uri") size_field.Uri))))
size_of size_field.Header = alt_left (preceded_of (literal_of 44) (alt_right (alt_right (alt_left (words (text "header") size_field.Header)))))
size_of size_field.Body = alt_left (preceded_of (literal_of 44) (alt_right (alt_right (alt_right (words (text "body") size_field.Body)))))

size_order_lem : (o : Order) → Of (opt order.Equal (or less_or_greater (literal_as 61 order.Equal))) (order_text o) o
size_order_lem order.Equal = alt_right pure_of
size_order_lem order.Less = alt_left (alt_left (alt_left (literal_as-of 60 order.Less)))
size_order_lem order.Greater = alt_left (alt_left (alt_right (literal_as-of 62 order.Greater)))

relative_of : (r : Bool) → Of (comma false (keyword (text "relative") true)) (text_if r (text ",relative")) r
relative_of true = alt_left (preceded_of (literal_of 44) (words (text "relative") true))
relative_of false = alt_right pure_of

width_of_lem : (w : Width) → Of width (decimal (byte_count w)) w
width_of_lem One = fmap_of {h = width_of} {a = 1} (number_that_of is_byte_count 1 refl)
width_of_lem Two = fmap_of {h = width_of} {a = 2} (number_that_of is_byte_count 2 refl)
width_of_lem Four = fmap_of {h = width_of} {a = 4} (number_that_of is_byte_count 4 refl)

byte_operator_of_lem : (o : ByteOperator) → Of byte_comparison (byte_operator_text o) o
byte_operator_of_lem byte_operator.Greater = alt_left (literal_as-of 62 byte_operator.Greater)
byte_operator_of_lem byte_operator.Less = alt_right (alt_left (literal_as-of 60 byte_operator.Less))
byte_operator_of_lem byte_operator.Equal = alt_right (alt_right (alt_left (literal_as-of 61 byte_operator.Equal)))
byte_operator_of_lem byte_operator.Unequal = alt_right (alt_right (alt_right (literal_as-of 33 byte_operator.Unequal)))

flags_of : (relative little : Bool) → Of flags (text_if relative (text ",relative") ++ text_if little (text ",little")) (relative, little)
flags_of false false = alt_right pure_of
flags_of false true = alt_left (preceded_of (literal_of 44) (alt_right (words (text "little") (false, true))))
flags_of true false = alt_left (preceded_of (literal_of 44) (alt_left (both_of (words (text "relative") true) (alt_right pure_of))))
flags_of true true =
    alt_left (preceded_of (literal_of 44) (alt_left (both_of (words (text "relative") true) (alt_left (preceded_of (literal_of 44) (words (text "little") true))))))

-- a test without addresses
alone : (it : Item) (x : List ℕ) (al : List Address) → (item_fits it && none? al) ≡ true → (item_fits it ≡ true → Written x (test it)) → Written x (Test it al)
alone it x [] t k = k (both_left (item_fits it) true t)
alone it x (a ∷ al) t k = let z = both_right (item_fits it) false t in impossible (cc)

address_written : (a : AddressTest) (al : List Address) → test_fits (addressed a) (item.Address a) al ≡ true
    → Written (test_text (item.Address a) al) (Test (item.Address a) al)
unfolding test_text
address_written a al t =
    let h = halves t in
    let g = halves h.1 in
    let e = eqb-true a.count (length al) h.0 in
    row_written (side_row a.side)
    (values (revalues (ap (λ n. Test (item.Address (record { side = a.side; negated = a.negated; count = n })) al) (sym e))
    (fmap_of {h = address_test a.side} (both_of (negation_of a.negated) (addresses_of al (leb-true 1 (length al) g.0) g.1)))))

number_written : (a : NumberTest) → item_fits (item.Number a) ≡ true → Written (test_text (item.Number a) []) (test (item.Number a))
unfolding test_text item_fits
number_written a f =
    let k = number_known a.field a.number f in
    let t = sym (number_limited a.field a.number k) ∙ f in
    row_written (number_row a.field k)
    (values (fmap_of {h = λ (n : ℕ). test (item.Number (record { field = a.field; number = n }))} (number_of (max_number a.field) a.number t)))

ttl_written : (a : TtlTest) → item_fits (item.Ttl a) ≡ true → Written (test_text (item.Ttl a) []) (test (item.Ttl a))
unfolding test_text item_fits
ttl_written a f = row_written ttl_row
    (values (fmap_of {h = λ (p : Order × ℕ). test (item.Ttl (record { order = p.0; number = p.1 }))}
    (both_of (order_of a.order) (number_of max_byte a.number f))))

field_written : (a : FieldTest) → item_fits (item.Field a) ≡ true → Written (test_text (item.Field a) []) (test (item.Field a))
unfolding test_text item_fits field_text
field_written a f =
    let h = halves f in
    row_written (field_row a.field)
    (values {x = field_text a}
    (fmap_of {h = λ (p : ℕ × (Operator × ℕ)). test (item.Field (record { field = a.field; mask = p.0; operator = p.1.0; number = p.1.1 }))}
    (retexts (simp append_assoc)
    (both_of (mask_of (max_field a.field) a.mask h.0)
    (both_of (terminated_of (operator_of_lem a.operator) (many_of (Row.more (literal_of 32) none))) (numeral_of (max_field a.field) a.number h.1))))))

size_written : (a : SizeTest) → item_fits (item.Size a) ≡ true → Written (test_text (item.Size a) []) (test (item.Size a))
unfolding test_text item_fits
size_written a f =
    row_written size_row
    (values (fmap_of {h = λ (p : Order × (ℕ × SizeField)). test (item.Size (record { order = p.0; number = p.1.0; field = p.1.1 }))}
    (both_of (size_order_lem a.order) (both_of (number_of max_word a.number f) (size_of a.field)))))

at_written : (a : AtTest) → item_fits (item.At a) ≡ true → Written (test_text (item.At a) []) (test (item.At a))
unfolding test_text item_fits
at_written a f = row_written at_row
    (values (fmap_of {h = λ (p : ℕ × Bool). test (item.At (record { number = p.0; relative = p.1 }))}
    (both_of (number_of max_word a.number f) (relative_of a.relative))))

byte_written : (a : ByteTest) → item_fits (item.Byte a) ≡ true → Written (test_text (item.Byte a) []) (test (item.Byte a))
unfolding test_text item_fits byte_text comparison_text
byte_written a f =
    let h = halves f in
    row_written byte_row
    (values {x = byte_text a}
    (fmap_of {h = byte_test}
    (retexts (simp append_assoc)
    (both_of (terminated_of (width_of_lem a.width) (literal_of 44))
    (both_of (terminated_of (byte_operator_of_lem a.operator) (literal_of 44))
    (both_of (terminated_of (numeral_of max_long a.value h.0) (literal_of 44))
    (both_of (number_of max_word a.offset h.1) (flags_of a.relative a.little))))))))

pub test_written : (it : Item) (al : List Address) → test_fits (kind_of it) it al ≡ true → Written (test_text it al) (Test it al)
unfolding test_text
test_written item.Unused al t = impossible (cc)
test_written (item.Address a) al t = address_written a al t
test_written item.SameIp al t = alone item.SameIp (test_text item.SameIp []) al t (λ f. row_written same_ip_row (closes pure_of))
test_written (item.Number a) al t = alone (item.Number a) (test_text (item.Number a) []) al t (number_written a)
test_written (item.Ttl a) al t = alone (item.Ttl a) (test_text (item.Ttl a) []) al t (ttl_written a)
test_written (item.Field a) al t = alone (item.Field a) (test_text (item.Field a) []) al t (field_written a)
test_written (item.Size a) al t = alone (item.Size a) (test_text (item.Size a) []) al t (size_written a)
test_written (item.At a) al t = alone (item.At a) (test_text (item.At a) []) al t (at_written a)
test_written (item.Byte a) al t = alone (item.Byte a) (test_text (item.Byte a) []) al t (byte_written a)
test_written (item.Pattern p) al t = impossible (cc)

-- ---- patterns and their modifiers

pattern_written : (n : Bool) (b : List ℕ) → option_fits (Pattern n b) ≡ true → Written (option_text (Pattern n b)) (Pattern n b)
unfolding option_text
pattern_written n b t =
    let h = halves t in
    row_written pattern_row
    (values (fmap_of {h = λ (p : Bool × List ℕ). Pattern p.0 p.1}
    (both_of (negation_of n) (preceded_of (literal_of 34) (terminated_of (pattern_of_lem b (leb-true 1 (length b) h.0) h.1) (literal_of 34))))))

context_of : (c : contexts.Context)
    → Of (or (keyword (text "packet") context.Packet)
    (or (keyword (text "uri") context.Uri)
    (or (preceded (word (text "h")) (or (keyword (text "eader") context.Header) (keyword (text "ost") context.Host)))
    (or (preceded (word (text "b")) (or (keyword (text "ody") context.Body) (keyword (text "anner") context.Banner)))
    (keyword (text "file") context.File))))) (context_text c) c
context_of context.Packet = alt_left (words (text "packet") context.Packet)
context_of context.Uri = alt_right (alt_left (words (text "uri") context.Uri))
context_of context.Header = alt_right (alt_right (alt_left (preceded_of (words (text "h") 0) (alt_left (words (text "eader") context.Header)))))
context_of context.Body = alt_right (alt_right (alt_right (alt_left (preceded_of (words (text "b") 0) (alt_left (words (text "ody") context.Body))))))
context_of context.Banner = alt_right (alt_right (alt_right (alt_left (preceded_of (words (text "b") 0) (alt_right (words (text "anner") context.Banner))))))
context_of context.Host = alt_right (alt_right (alt_left (preceded_of (words (text "h") 0) (alt_right (words (text "ost") context.Host)))))
context_of context.File = alt_right (alt_right (alt_right (alt_right (words (text "file") context.File))))

-- match is left out
reference_of_lem : (r : Reference) → Of (comma reference.Match reference_word) (reference_text r) r
reference_of_lem reference.Match = alt_right pure_of
reference_of_lem reference.Packet = alt_left (preceded_of (literal_of 44) (alt_right (alt_left (words (text "packet") reference.Packet))))
reference_of_lem reference.Context = alt_left (preceded_of (literal_of 44) (alt_right (alt_right (words (text "context") reference.Context))))

reverse_of : (r : Bool) → Of (comma false (keyword (text "reverse") true)) (text_if r (text ",reverse")) r
reverse_of true = alt_left (preceded_of (literal_of 44) (words (text "reverse") true))
reverse_of false = alt_right pure_of

-- reverse stands after a reference
offset_of : (r : Reference) (v : Bool) → (not v || not (same_reference r reference.Match)) ≡ true
    → Of (comma (reference.Match, false) (pair reference_word (comma false (keyword (text "reverse") true))))
    (reference_text r ++ text_if v (text ",reverse")) (r, v)
offset_of reference.Match true t = never (cc)
offset_of reference.Match false t = alt_right pure_of
offset_of reference.Packet v t = alt_left (preceded_of (literal_of 44) (both_of (alt_right (alt_left (words (text "packet") reference.Packet))) (reverse_of v)))
offset_of reference.Context v t =
    alt_left (preceded_of (literal_of 44) (both_of (alt_right (alt_right (words (text "context") reference.Context))) (reverse_of v)))

abbrev shifted : Bool × (ℕ × (Reference × Bool)) → OptionValue
shifted p = Modified (Distance (record { offset = signed p.0 p.1.0; reference = p.1.1.0; reverse = p.1.1.1 }))

distance_written : (z : ℤ) (r : Reference) (v : Bool) → leb (nat_abs z) max_word ≡ true → (not v || not (same_reference r reference.Match)) ≡ true
    → Written (modifier_text (Distance (record { offset = z; reference = r; reverse = v })))
    (Modified (Distance (record { offset = z; reference = r; reverse = v })))
unfolding modifier_text
distance_written (pos n) r v t u =
    row_written distance_row
    (values (fmap_of {h = shifted} {a = (false, (n, (r, v)))} (both_of (alt_right pure_of) (both_of (number_of max_word n t) (offset_of r v u)))))
distance_written (negsuc n) r v t u =
    row_written distance_row
    (values (fmap_of {h = shifted} {a = (true, (suc n, (r, v)))}
    (both_of (alt_left (literal_as-of 45 true)) (both_of (number_of max_word (suc n) t) (offset_of r v u)))))

within_written : (w : WithinValue) → leb w.number max_word ≡ true → Written (modifier_text (Within w)) (Modified (Within w))
unfolding modifier_text
within_written w t =
    row_written within_row
    (values (fmap_of {h = λ (p : ℕ × Reference). Modified (Within (record { number = p.0; reference = p.1 }))}
    (both_of (number_of max_word w.number t) (reference_of_lem w.reference))))

-- ---- all options

pub option_written : (e : OptionValue) → option_fits e ≡ true → option_writable e ≡ true → Written (option_text e) e
unfolding option_text modifier_text
option_written (Name n) t u = name_written n t
option_written (Protocol p) t u = protocol_written p t
option_written (Flow f) t u = flow_written f t
option_written (Test it al) t u = test_written it al t
option_written (Pattern n b) t u = pattern_written n b t
option_written (Modified (Context c)) t u = row_written context_row (values (fmap_of {h = λ (c : contexts.Context). Modified (Context c)} (context_of c)))
option_written (Modified NoCase) t u = row_written no_case_row (closes pure_of)
option_written (Modified (Distance d)) t u = distance_written d.offset d.reference d.reverse t u
option_written (Modified (Within w)) t u = within_written w t
