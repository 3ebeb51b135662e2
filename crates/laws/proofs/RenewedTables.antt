-- WHAT BECOMES OF A TABLE OF THE OLD KIND if each ip_id in it is replaced by the field test that ip_id now reads as: it has the same placements for every
-- packet (`renewed_matches`), and its canonical text is two bytes longer for each (`renewed_longer`). Both tests compare the header's id, all of its 16 bits,
-- with the same number. Document 02, T-09.
use Rattle.std.specs.Prelude.{Option, None}
use mathlib.Core.Path.{◌≡◌, refl, sym, ap, ◌∙◌}
use mathlib.Core.Bool.{Bool, true, false}
use mathlib.Core.List.{List, [], ◌∷◌, ◌++◌, map}
use Prim.Native.Nat.{ℕ, zero, suc, ◌+◌, ◌*◌, ◌%◌, ◌≤◌}
use native.Mathlib.Omega.{arith}
use lib.ListN.{length, length-append, get_or, take}
use lib.Dec.{leb}
use lib.Bits.{bit_and, and_mask}
use Rattle.std.proofs.lemmas.List.{take-map}
use borrow.Author.Tests.{leb-true}
use Rattle.forms.specs.Bytes.{text}
use Rattle.forms.proofs.Bools.{by_cases, both_left, both_right}
use Rattle.definitions.specs.declared.table.NumberField.{NumberField}
use Rattle.definitions.specs.declared.table.NumberField.TheVariants as number_field
use Rattle.definitions.specs.declared.table.NumberTest.{NumberTest}
use Rattle.definitions.specs.declared.table.Pattern.{Pattern}
use Rattle.definitions.specs.declared.table.Item.{Item}
use Rattle.definitions.specs.declared.table.Item.TheVariants as item
use Rattle.definitions.specs.declared.table.Address.{Address}
use Rattle.definitions.specs.declared.table.Slot.{Slot}
use Rattle.definitions.specs.declared.table.Table.{Table}
use Rattle.definitions.specs.declared.packets.Direction.{Direction}
use Rattle.definitions.specs.declared.packets.FieldMap.{FieldMap}
use Rattle.definitions.specs.declared.packets.Match.{Match}
use Rattle.definitions.specs.Limits.{max_byte, max_word}
use Rattle.definitions.specs.Lists.{all?, keep_one, keep, count}
use Rattle.definitions.specs.OptionValues.{OptionValue, Name, Protocol}
use Rattle.definitions.specs.Options.{opening}
use Rattle.definitions.specs.Items.{kind_of, after_item, slots_of}
use Rattle.definitions.specs.References.{last_after}
use Rattle.definitions.specs.Packet.{big_endian, header_of, total_length}
use Rattle.definitions.specs.Fields.{View, view_of}
use Rattle.definitions.specs.Tests.{number_holds, field_holds, test_holds}
use Rattle.definitions.specs.Placements.{only_if, Constraint, matched, unmatched, tested, pattern_constraint, constraint_by, constraints, items_of}
use Rattle.definitions.specs.Placements.{starts, unmatched_holds, placements, head_holds, listed}
use Rattle.definitions.specs.Canonical.{flow_option, item_options, slot_options, canonical_options, field_text, test_text, option_text, options_text, canonical_text}
use Rattle.definitions.specs.IpId.{is_ip_id, slot_is_ip_id, ip_id_uses, renewed_number, renewed_item, renewed_slot, renewed}
use Rattle.laws.proofs.DataAt.{spread_alike}

-- ---- the test

-- all bits of a number of 16
all_bits : (n : ℕ) → n ≤ max_word → bit_and n max_word ≡ n
all_bits n h = and_mask n 16 ∙ small
  where
    small : n % 65536 ≡ n
    small = omega (arith, h)

module _ (v : View) (id : v.header.id ≤ max_word) where
  same_number : (a : NumberTest) (f : NumberField) (al : List Address) (l : Option Match) → a.field ≡ f
      → test_holds v (renewed_number a f) al l ≡ test_holds v (item.Number a) al l
  unfolding test_holds number_holds field_holds
  same_number a number_field.IpId al l e = rw (e, all_bits v.header.id id)
  same_number a number_field.SourcePort al l e = refl
  same_number a number_field.DestinationPort al l e = refl
  same_number a number_field.Tos al l e = refl

  -- THE SAME TEST
  pub renewed_test : (it : Item) (al : List Address) (l : Option Match) → test_holds v (renewed_item it) al l ≡ test_holds v it al l
  renewed_test item.Unused al l = refl
  renewed_test (item.Address a) al l = refl
  renewed_test item.SameIp al l = refl
  renewed_test (item.Number a) al l = same_number a a.field al l refl
  renewed_test (item.Ttl a) al l = refl
  renewed_test (item.Field a) al l = refl
  renewed_test (item.Size a) al l = refl
  renewed_test (item.At a) al l = refl
  renewed_test (item.Byte a) al l = refl
  renewed_test (item.Pattern p) al l = refl

-- ---- the items

abbrev renewed_constraint : Constraint → Constraint
renewed_constraint (matched p b) = matched p b
renewed_constraint (unmatched p b) = unmatched p b
renewed_constraint (tested it al) = tested (renewed_item it) al

pattern_kept : (p : Pattern) (b : List ℕ) → pattern_constraint p b ≡ renewed_constraint (pattern_constraint p b)
pattern_kept p b = by_cases p.negated (λ e. rw e) (λ e. rw e)

-- a number test is of the same kind whatever its field, and so is what replaces it
number_kind : (a : NumberTest) (f : NumberField) → kind_of (renewed_number a f) ≡ kind_of (item.Number a)
number_kind a number_field.IpId = refl
number_kind a number_field.SourcePort = refl
number_kind a number_field.DestinationPort = refl
number_kind a number_field.Tos = refl

pub kind_kept : (it : Item) → kind_of (renewed_item it) ≡ kind_of it
kind_kept item.Unused = refl
kind_kept (item.Address a) = refl
kind_kept item.SameIp = refl
kind_kept (item.Number a) = number_kind a a.field
kind_kept (item.Ttl a) = refl
kind_kept (item.Field a) = refl
kind_kept (item.Size a) = refl
kind_kept (item.At a) = refl
kind_kept (item.Byte a) = refl
kind_kept (item.Pattern p) = refl

constraint_kept : (it : Item) (al : List Address) (b : List ℕ)
    → constraint_by (kind_of (renewed_item it)) (renewed_item it) al b ≡ renewed_constraint (constraint_by (kind_of it) it al b)
constraint_kept item.Unused al b = refl
constraint_kept (item.Address a) al b = refl
constraint_kept item.SameIp al b = refl
constraint_kept (item.Number a) al b = ap (λ k. constraint_by k (renewed_item (item.Number a)) al b) (kind_kept (item.Number a))
constraint_kept (item.Ttl a) al b = refl
constraint_kept (item.Field a) al b = refl
constraint_kept (item.Size a) al b = refl
constraint_kept (item.At a) al b = refl
constraint_kept (item.Byte a) al b = refl
constraint_kept (item.Pattern p) al b = pattern_kept p (take p.len b)

renewed_constraints : (sls : List Slot) (b : List ℕ) → constraints (map renewed_slot sls) b ≡ map renewed_constraint (constraints sls b)
unfolding constraints
renewed_constraints [] b = refl
renewed_constraints (sl ∷ sls) b =
    rw (constraint_kept sl.item sl.addresses b, kind_kept sl.item, renewed_constraints sls (after_item (kind_of sl.item) b))

module _ (v : View) (id : v.header.id ≤ max_word) where
  same_placements : (ws : List Constraint) (l : Option Match) → placements v (map renewed_constraint ws) l ≡ placements v ws l
  unfolding placements
  same_placements [] l = refl
  same_placements (matched p b ∷ ws) l = spread_alike _ _ (starts v p b l) (λ s m. same_placements ws (last_after l p s))
  same_placements (unmatched p b ∷ ws) l = ap (only_if (unmatched_holds v p b l)) (same_placements ws l)
  same_placements (tested it al ∷ ws) l = rw (renewed_test v id it al l, same_placements ws l)

-- ---- the table

-- the id is two of the packet's bytes
byte_at : (k : ℕ) (p : List ℕ) (i : ℕ) → all? (λ (b : ℕ). leb b max_byte) p ≡ true → get_or (take k p) i 0 ≤ max_byte
unfolding all?
byte_at zero p i h = omega arith
byte_at (suc k) [] i h = omega arith
byte_at (suc k) (b ∷ p) zero h = leb-true b max_byte (both_left (leb b max_byte) (all? (λ (b : ℕ). leb b max_byte) p) h)
byte_at (suc k) (b ∷ p) (suc i) h = byte_at k p i (both_right (leb b max_byte) (all? (λ (b : ℕ). leb b max_byte) p) h)

id_word : (k : ℕ) (p : List ℕ) → all? (λ (b : ℕ). leb b max_byte) p ≡ true → (header_of (take k p)).id ≤ max_word
unfolding header_of big_endian
id_word k p h =
    let a = byte_at k p 4 h in
    let b = byte_at k p 5 h in
    omega (arith, a, b)

-- THE SAME LIST OF PLACEMENTS, for every packet: a table with ip_id and the table with `ip.id =` in its place
pub renewed_matches : (t : Table) (p decoded : List ℕ) (m : FieldMap) (dir : Direction) → all? (λ (b : ℕ). leb b max_byte) p ≡ true
    → listed (renewed t) (view_of p decoded m) dir ≡ listed t (view_of p decoded m) dir
unfolding listed renewed items_of
renewed_matches t p decoded m dir h =
    let v = view_of p decoded m in
    let same = ap (λ sls. constraints sls t.bytes) (take-map renewed_slot t.count t.items) ∙ renewed_constraints (slots_of t) t.bytes in
    ap (only_if (head_holds t v dir))
    (ap (λ ws. placements v ws None) same ∙ same_placements v (id_word (total_length p) p h) (constraints (slots_of t) t.bytes) None)

-- ---- the canonical text

options_append : (es fs : List OptionValue) → length (options_text (es ++ fs)) ≡ length (options_text es) + length (options_text fs)
unfolding options_text
options_append [] fs = omega arith
options_append (e ∷ es) fs =
    omega (arith, options_append es fs, length-append (option_text e) (options_text (es ++ fs)), length-append (option_text e) (options_text es))

-- one for an item of the old kind, none for another
abbrev one_if : Bool → ℕ
one_if true = 1
one_if false = 0

number_longer : (a : NumberTest) (f : NumberField) → a.field ≡ f
    → length (test_text (renewed_number a f) []) ≡ length (test_text (item.Number a) []) + 2 * one_if (is_ip_id (item.Number a))
unfolding test_text field_text
number_longer a number_field.IpId e = rw e (omega arith)
number_longer a number_field.SourcePort e = rw e (omega arith)
number_longer a number_field.DestinationPort e = rw e (omega arith)
number_longer a number_field.Tos e = rw e (omega arith)

number_option_longer : (a : NumberTest) (al : List Address) (b : List ℕ)
    → length (options_text (item_options (kind_of (renewed_item (item.Number a))) (renewed_slot (record { item = item.Number a; addresses = al })) b))
    ≡ length (options_text (item_options (kind_of (item.Number a)) (record { item = item.Number a; addresses = al }) b)) + 2 * one_if (is_ip_id (item.Number a))
unfolding options_text option_text
number_option_longer a al b =
    rw (number_kind a a.field)
    (omega (
      arith,
      number_longer a a.field refl,
      length-append (test_text (renewed_number a a.field) []) [],
      length-append (test_text (item.Number a) []) [],
    ))

item_longer : (it : Item) (al : List Address) (b : List ℕ)
    → length (options_text (item_options (kind_of (renewed_item it)) (renewed_slot (record { item = it; addresses = al })) b))
    ≡ length (options_text (item_options (kind_of it) (record { item = it; addresses = al }) b)) + 2 * one_if (is_ip_id it)
item_longer item.Unused al b = omega arith
item_longer (item.Address a) al b = omega arith
item_longer item.SameIp al b = omega arith
item_longer (item.Number a) al b = number_option_longer a al b
item_longer (item.Ttl a) al b = omega arith
item_longer (item.Field a) al b = omega arith
item_longer (item.Size a) al b = omega arith
item_longer (item.At a) al b = omega arith
item_longer (item.Byte a) al b = omega arith
item_longer (item.Pattern p) al b = omega arith

counted_first : (k : Bool) (sl : Slot) (sls : List Slot) → length (keep_one k sl sls) ≡ one_if k + length sls
counted_first true sl sls = omega arith
counted_first false sl sls = omega arith

slots_longer : (sls : List Slot) (b : List ℕ)
    → length (options_text (slot_options (map renewed_slot sls) b)) ≡ length (options_text (slot_options sls b)) + 2 * count slot_is_ip_id sls
unfolding slot_options keep
slots_longer [] b = omega arith
slots_longer (sl ∷ sls) b =
    let k = kind_of sl.item in
    let rest = slot_options (map renewed_slot sls) (after_item k b) in
    rw (ap (λ j. after_item j b) (kind_kept sl.item))
    (omega (
      arith,
      options_append (item_options (kind_of (renewed_item sl.item)) (renewed_slot sl) b) rest,
      options_append (item_options k sl b) (slot_options sls (after_item k b)),
      item_longer sl.item sl.addresses b,
      slots_longer sls (after_item k b),
      counted_first (slot_is_ip_id sl) sl (keep slot_is_ip_id sls),
    ))

-- the options before those of the items
abbrev head_options : Table → List OptionValue
head_options t = Name (take t.len t.name) ∷ Protocol t.protocol ∷ flow_option t.flow

framed_length : (hs es : List OptionValue)
    → length (opening ++ (options_text (hs ++ es) ++ text " )")) ≡ 9 + length (options_text hs) + length (options_text es)
framed_length hs es = omega (arith, length-append (options_text (hs ++ es)) (text " )"), options_append hs es)

-- TWO BYTES LONGER for each
pub renewed_longer : (t : Table) → length (canonical_text (renewed t)) ≡ length (canonical_text t) + 2 * ip_id_uses t
unfolding canonical_text canonical_options renewed
renewed_longer t =
    let slots = slot_options (slots_of t) t.bytes in
    let others = slot_options (take t.count (map renewed_slot t.items)) t.bytes in
    let longer : length (options_text others) ≡ length (options_text slots) + 2 * ip_id_uses t =
    ap (λ sls. length (options_text (slot_options sls t.bytes))) (take-map renewed_slot t.count t.items) ∙ slots_longer (slots_of t) t.bytes in
    let a = framed_length (head_options t) slots in
    let b = framed_length (head_options t) others in
    b ∙ (omega (arith, longer) ∙ ap (λ n. n + 2 * ip_id_uses t) (sym a))
