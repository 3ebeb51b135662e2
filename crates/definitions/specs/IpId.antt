-- ip_id goes: the items of the old kind, the tables that have a field test in the place of each, the texts that say `--ip.id = N` where others say `--ip_id N`,
-- and what texts said before. Document 02, T-09.
use Rattle.std.specs.Prelude.{ℕ, suc, ◌≡◌, Bool, true, false, leb}
use mathlib.Core.List.{List, [], ◌∷◌, ◌++◌, map, Memᴰ as Mem}
use Rattle.forms.specs.Bytes.{text, same_word}
use Rattle.forms.specs.Form.{has, Means}
use Rattle.definitions.specs.declared.table.NumberField.{NumberField}
use Rattle.definitions.specs.declared.table.NumberField.TheVariants as number_field
use Rattle.definitions.specs.declared.table.NumberTest.{NumberTest}
use Rattle.definitions.specs.declared.table.HeaderField.TheVariants as header_field
use Rattle.definitions.specs.declared.table.Item.{Item}
use Rattle.definitions.specs.declared.table.Item.TheVariants as item
use Rattle.definitions.specs.declared.table.Slot.{Slot}
use Rattle.definitions.specs.declared.table.Table.{Table}
use Rattle.definitions.specs.Limits.{max_word}
use Rattle.definitions.specs.Lists.{any?, all?, none?, count}
use Rattle.definitions.specs.Numbers.{decimal_digits, value_of}
use Rattle.definitions.specs.OptionValues.{OptionValue, Name, Protocol, Flow, Test, Pattern, Modified}
use Rattle.definitions.specs.Forms.{number_form, field_equals}
use Rattle.definitions.specs.Options.{Option, option_table}
use Rattle.definitions.specs.Items.{slots_of}
use Rattle.definitions.specs.Grammar.{OptionText, DerivesBy}

-- ---- the old kind

abbrev pub is_ip_id_field : NumberField → Bool
is_ip_id_field number_field.IpId = true
is_ip_id_field number_field.SourcePort = false
is_ip_id_field number_field.DestinationPort = false
is_ip_id_field number_field.Tos = false

abbrev pub is_ip_id : Item → Bool
is_ip_id item.Unused = false
is_ip_id (item.Address a) = false
is_ip_id item.SameIp = false
is_ip_id (item.Number a) = is_ip_id_field a.field
is_ip_id (item.Ttl a) = false
is_ip_id (item.Field a) = false
is_ip_id (item.Size a) = false
is_ip_id (item.At a) = false
is_ip_id (item.Byte a) = false
is_ip_id (item.Pattern p) = false

abbrev pub slot_is_ip_id : Slot → Bool
slot_is_ip_id sl = is_ip_id sl.item

-- a table that holds an item of the old kind, in a slot that is in use or in another
unfoldable pub holds_ip_id : Table → Bool
holds_ip_id t = any? slot_is_ip_id t.items

-- how many of the items are of it
abbrev pub ip_id_uses : Table → ℕ
ip_id_uses t = count slot_is_ip_id (slots_of t)

-- ---- in its place: the field test that ip_id is read as

-- of an item
abbrev pub renewed_number : NumberTest → NumberField → Item
renewed_number a number_field.IpId = item.Field (field_equals header_field.Id a.number)
renewed_number a number_field.SourcePort = item.Number a
renewed_number a number_field.DestinationPort = item.Number a
renewed_number a number_field.Tos = item.Number a

abbrev pub renewed_item : Item → Item
renewed_item item.Unused = item.Unused
renewed_item (item.Address a) = item.Address a
renewed_item item.SameIp = item.SameIp
renewed_item (item.Number a) = renewed_number a a.field
renewed_item (item.Ttl a) = item.Ttl a
renewed_item (item.Field a) = item.Field a
renewed_item (item.Size a) = item.Size a
renewed_item (item.At a) = item.At a
renewed_item (item.Byte a) = item.Byte a
renewed_item (item.Pattern p) = item.Pattern p

-- of what an option says, and of a slot
abbrev pub renewed_value : OptionValue → OptionValue
renewed_value (Name n) = Name n
renewed_value (Protocol p) = Protocol p
renewed_value (Flow f) = Flow f
renewed_value (Test it al) = Test (renewed_item it) al
renewed_value (Pattern negated b) = Pattern negated b
renewed_value (Modified m) = Modified m

abbrev pub renewed_slot : Slot → Slot
renewed_slot sl = record { item = renewed_item sl.item; addresses = sl.addresses }

-- the table with a field test in the place of each item of the old kind
unfoldable pub renewed : Table → Table
renewed t =
    record {
      name = t.name;
      len = t.len;
      protocol = t.protocol;
      flow = t.flow;
      bytes = t.bytes;
      used = t.used;
      items = map renewed_slot t.items;
      count = t.count;
    }

-- ---- texts

-- digits of a number to 65535, leading zeros too
pub record WordDigits (digits : List ℕ) : Type 0 where
  pub some : none? digits ≡ false
  pub all : all? (has decimal_digits) digits ≡ true
  pub small : leb (value_of 10 0 digits) max_word ≡ true

abbrev pub ip_id_text : List ℕ → List ℕ
ip_id_text digits = text "--ip_id " ++ (digits ++ text ";")

abbrev pub id_equals_text : List ℕ → List ℕ
id_equals_text digits = text "--ip.id = " ++ (digits ++ text ";")

-- what stands after `F-SBID(` in two texts, the same option by option, but that n options which say `--ip_id N` in the first say `--ip.id = N` in the second
pub data Respelled : ℕ → List ℕ → List ℕ → Type 1 where
  both_end : Respelled 0 (41 ∷ []) (41 ∷ [])
  both_space : {n : ℕ} {l m : List ℕ} → Respelled n l m → Respelled n (32 ∷ l) (32 ∷ m)
  same_option : {n : ℕ} {x l m : List ℕ} {e : OptionValue} → OptionText x e → Respelled n l m → Respelled n (x ++ l) (x ++ m)
  other_spelling : {n : ℕ} {l m : List ℕ} (digits : List ℕ) → WordDigits digits → Respelled n l m
      → Respelled (suc n) (ip_id_text digits ++ l) (id_equals_text digits ++ m)

-- ---- the texts before: `--ip_id N` said an item of the old kind, all other options what they say now (byte_test, which came later, among them)

pub data FormerOption : List ℕ → OptionValue → Type 1 where
  former_ip_id : (n y : List ℕ) {e : OptionValue} → same_word n (text "ip_id") ≡ true → Means true (number_form number_field.IpId) y e
      → FormerOption (45 ∷ 45 ∷ (n ++ y)) e
  former_other : (o : Option) (n y : List ℕ) {e : OptionValue} → Mem o option_table → same_word n o.name ≡ true → same_word n (text "ip_id") ≡ false
      → Means true o.form y e → FormerOption (45 ∷ 45 ∷ (n ++ y)) e

-- the texts of a table, by these options
abbrev pub FormerlyDerives : ℕ → List ℕ → Table → Type 1
FormerlyDerives = DerivesBy FormerOption
