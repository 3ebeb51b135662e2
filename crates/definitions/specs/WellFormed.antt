-- The tables that some text, rule 1's upper bound lifted, reads as. Section "Numbers of refusal", 20.
use Rattle.std.specs.Prelude.{◌≡◌, ℕ, ◌+◌, ◌-◌, Bool, true, false, ◌&&◌, length, take, drop, eqb, ltb, leb, nat_abs, Option, Some, None}
use mathlib.Core.List.{List, [], ◌∷◌, Memᴰ as Mem}
use Rattle.forms.specs.Bytes.{between}
use Rattle.forms.specs.Form.{has}
use Rattle.definitions.specs.declared.table.NumberField.{NumberField}
use Rattle.definitions.specs.declared.table.NumberField.TheVariants as number_field
use Rattle.definitions.specs.declared.table.Pattern.{Pattern}
use Rattle.definitions.specs.declared.table.Item.{Item}
use Rattle.definitions.specs.declared.table.Item.TheVariants as item
use Rattle.definitions.specs.declared.table.Address.{Address}
use Rattle.definitions.specs.declared.table.Slot.{Slot}
use Rattle.definitions.specs.declared.table.Table.{Table}
use Rattle.definitions.specs.declared.table.DistanceValue.{DistanceValue}
use Rattle.definitions.specs.declared.table.WithinValue.{WithinValue}
use Rattle.definitions.specs.Limits.{max_name, max_patterns, max_tests, max_items, max_addresses, max_byte, max_word, max_long, max_prefix}
use Rattle.definitions.specs.Lists.{all?}
use Rattle.definitions.specs.Forms.{quotable, max_field, max_number}
use Rattle.definitions.specs.Items.{Kind, unused, addressed, patterned, plain_test, kind_of, patterns_of, slots_of}
use Rattle.definitions.specs.References.{usable_run}
use Rattle.definitions.specs.Reading.{accepted_reading, read_unbounded}

-- the lengths that a table's arrays have by their types
pub record Shaped (room : ℕ) (t : Table) : Type 0 where
  pub named : length t.name ≡ max_name
  pub roomy : length t.bytes ≡ room
  pub slotted : length t.items ≡ max_items
  pub addressed : (sl : Slot) → Mem sl t.items → length sl.addresses ≡ max_addresses

-- THE STATEMENT: some text reads as the table. A text with more pattern bytes than the table's room reads as no table of this shape
abbrev pub Readable : ℕ → Table → Type 0
Readable room t = (s : List ℕ) × (read_unbounded room s ≡ accepted_reading t)

-- THE TEST of it, rule by rule of section "Text"

abbrev pub is_zero : ℕ → Bool
is_zero b = eqb b 0

-- name: 1 to 64 bytes, none of them `"` or `;`; room unused is zero
unfoldable pub name_fits : List ℕ → ℕ → Bool
name_fits name n = between 1 max_name n && (all? (has quotable) (take n name) && all? is_zero (drop n name))

-- addresses: four numbers 0..255 and a prefix of at most 32; unused ones zero
abbrev pub address_fits : Address → Bool
address_fits a = leb a.number max_long && leb a.prefix max_prefix

abbrev pub address_unused : Address → Bool
address_unused a = is_zero a.number && is_zero a.prefix

-- each number within its limit
abbrev pub distance_fits : Option DistanceValue → Bool
distance_fits None = true
distance_fits (Some d) = leb (nat_abs d.offset) max_word

abbrev pub within_fits : Option WithinValue → Bool
within_fits None = true
within_fits (Some w) = leb w.number max_word

-- no text reads as an item of the old kind, ip_id (document 02, T-09)
abbrev pub number_fits : NumberField → ℕ → Bool
number_fits number_field.IpId n = false
number_fits number_field.SourcePort n = leb n (max_number number_field.SourcePort)
number_fits number_field.DestinationPort n = leb n (max_number number_field.DestinationPort)
number_fits number_field.Tos n = leb n (max_number number_field.Tos)

unfoldable pub item_fits : Item → Bool
item_fits item.Unused = false
item_fits (item.Address a) = between 1 max_addresses a.count
item_fits item.SameIp = true
item_fits (item.Number a) = number_fits a.field a.number
item_fits (item.Ttl a) = leb a.number max_byte
item_fits (item.Field a) = leb a.mask (max_field a.field) && leb a.number (max_field a.field)
item_fits (item.Size a) = leb a.number max_word
item_fits (item.At a) = leb a.number max_word
item_fits (item.Byte a) = leb a.value max_long && leb a.offset max_word
item_fits (item.Pattern p) = ltb 0 p.len && (distance_fits p.distance && within_fits p.within)

-- how many of a slot's addresses are in use
abbrev pub address_count : Kind → ℕ
address_count unused = 0
address_count (addressed a) = a.count
address_count (patterned p) = 0
address_count plain_test = 0

abbrev pub addresses_fit : ℕ → List Address → Bool
addresses_fit n l = all? address_fits (take n l) && all? address_unused (drop n l)

abbrev pub slot_fits : Slot → Bool
slot_fits sl = item_fits sl.item && addresses_fit (address_count (kind_of sl.item)) sl.addresses

abbrev pub is_unused : Kind → Bool
is_unused unused = true
is_unused (addressed a) = false
is_unused (patterned p) = false
is_unused plain_test = false

abbrev pub slot_unused : Slot → Bool
slot_unused sl = is_unused (kind_of sl.item) && all? address_unused sl.addresses

abbrev pub pattern_count : Table → ℕ
pattern_count t = length (patterns_of (slots_of t))

-- at most 8 patterns and 16 tests
unfoldable pub items_fit : Table → Bool
items_fit t =
    leb t.count max_items
    && (all? slot_fits (slots_of t)
    && (all? slot_unused (drop t.count t.items)
    && (leb (pattern_count t) max_patterns && leb (t.count - pattern_count t) max_tests)))

-- pattern bytes in all
unfoldable pub bytes_of : List Pattern → ℕ
bytes_of [] = 0
bytes_of (p ∷ ps) = p.len + bytes_of ps

-- the patterns' bytes lie one after the other from 0 on
unfoldable pub bytes_fit : Table → Bool
bytes_fit t =
    eqb t.used (bytes_of (patterns_of (slots_of t)))
    && (leb t.used (length t.bytes)
    && (all? (λ (b : ℕ). leb b max_byte) (take t.used t.bytes) && all? is_zero (drop t.used t.bytes)))

unfoldable pub well_formed : Table → Bool
well_formed t =
    name_fits t.name t.len
    && (leb t.protocol max_byte
    && (items_fit t
    && (bytes_fit t
    && eqb (usable_run None (patterns_of (slots_of t))) (pattern_count t))))
