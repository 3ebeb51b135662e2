-- Refusal 20 by examples: edits of a table that some text still reads as, and edits that no text reads as. One statement over two tables of
-- edits, by computation.
use mathlib.Core.Path.{◌≡◌, refl}
use mathlib.Core.Bool.{Bool, true, false, not, ◌&&◌}
use mathlib.Core.List.{List, [], ◌∷◌}
use Prim.Native.Nat.{ℕ, zero, suc, ◌+◌}
use lib.ListN.{get_or, set, replicate}
use lib.IntN.{pos, negsuc}
use Rattle.forms.specs.Bytes.{text}
use Rattle.definitions.specs.declared.table.Side.TheVariants.{Source}
use Rattle.definitions.specs.declared.table.NumberField.TheVariants.{IpId, SourcePort, Tos}
use Rattle.definitions.specs.declared.table.HeaderField.TheVariants.{Ttl}
use Rattle.definitions.specs.declared.table.Operator.TheVariants.{AtMost}
use Rattle.definitions.specs.declared.table.Order.TheVariants.{Less}
use Rattle.definitions.specs.declared.table.Width.TheVariants.{One, Four}
use Rattle.definitions.specs.declared.table.ByteOperator.TheVariants.{Unequal}
use Rattle.definitions.specs.declared.table.Reference.TheVariants.{Match, Context}
use Rattle.definitions.specs.declared.table.Pattern.{Pattern}
use Rattle.definitions.specs.declared.table.Item.{Item}
use Rattle.definitions.specs.declared.table.Item.TheVariants as item
use Rattle.definitions.specs.declared.table.Address.{Address}
use Rattle.definitions.specs.declared.table.Slot.{Slot}
use Rattle.definitions.specs.declared.table.Table.{Table}
use Rattle.definitions.specs.Limits.{max_name}
use Rattle.definitions.specs.Lists.{all?, padded}
use Rattle.definitions.specs.OptionValues as entry
use Rattle.definitions.specs.Tables.{bare, with, slot_of, no_slot, table_of}
use Rattle.definitions.specs.Items.{Kind, unused, addressed, patterned, plain_test, kind_of}
use Rattle.definitions.specs.Reading.{read}
use Rattle.definitions.specs.WellFormed.{well_formed}
use Rattle.definitions.specs.NumberCases.{narrow_limits}
use Rattle.definitions.specs.Computing.{computing}

pub good : Table
good = (read narrow_limits (text "F-SBID(--name \"ab\";--protocol 6;--pattern \"xy\";--distance 1;--same_ip;--src_addr [1.2.3.4,5.6.7.8/9];)")).table

-- ---- edits

pub with_protocol : ℕ → Table → Table
with_protocol p t = record { name = t.name; len = t.len; protocol = p; flow = t.flow; bytes = t.bytes; used = t.used; items = t.items; count = t.count }

-- a name of n bytes, of which the first are b
pub named : List ℕ → ℕ → Table → Table
named b n t = record {
  name = padded max_name 0 b;
  len = n;
  protocol = t.protocol;
  flow = t.flow;
  bytes = t.bytes;
  used = t.used;
  items =
      t.items;
  count = t.count;
}

pub counted : ℕ → Table → Table
counted n t = record { name = t.name; len = t.len; protocol = t.protocol; flow = t.flow; bytes = t.bytes; used = t.used; items = t.items; count = n }

pub roomed : ℕ → List ℕ → Table → Table
roomed n b t = record { name = t.name; len = t.len; protocol = t.protocol; flow = t.flow; bytes = b; used = n; items = t.items; count = t.count }

-- a slot in its place, and one more
pub placed : ℕ → ℕ → Slot → Table → Table
placed count at sl t =
    record {
      name = t.name;
      len = t.len;
      protocol = t.protocol;
      flow = t.flow;
      bytes = t.bytes;
      used = t.used;
      items = set t.items at sl;
      count =
          count;
    }

pub adds_slot : Slot → Table → Table
adds_slot sl t = placed (t.count + 1) t.count sl t

pub adds : Item → Table → Table
adds it t = adds_slot (slot_of it []) t

pub adds_addresses : ℕ → List Address → Table → Table
adds_addresses n l t = adds_slot (record { item = item.Address (record { side = Source; negated = false; count = n }); addresses = l }) t

pub adds_pattern : Table → Table
adds_pattern t = adds (item.Pattern (bare false 1)) (roomed (t.used + 1) (set t.bytes t.used 97) t)

-- another pattern in the first slot
pub changed : Kind → (Pattern → Pattern) → Item
changed unused f = item.Unused
changed (addressed a) f = item.Unused
changed (patterned p) f = item.Pattern (f p)
changed plain_test f = item.Unused

pub on_first : (Pattern → Pattern) → Table → Table
on_first f t = placed t.count 0 (slot_of (changed (kind_of (get_or t.items 0 no_slot).item) f) []) t

pub with_len : ℕ → Pattern → Pattern
with_len n p = record { negated = p.negated; len = n; context = p.context; nocase = p.nocase; distance = p.distance; within = p.within }

pub times : ℕ → (Table → Table) → Table → Table
times zero f t = t
times (suc n) f t = f (times n f t)

pub address_of : ℕ → ℕ → Address
address_of n p = record { number = n; prefix = p }

-- ---- the two tables of edits

pub kept : List (Table → Table)
kept =
    (λ t. t) ∷
    with_protocol 255 ∷
    adds (item.Ttl (record { order = Less; number = 255 })) ∷
    adds (item.Number (record { field = SourcePort; number = 5 })) ∷
    adds (item.Byte (record { width = Four; operator = Unequal; value = 4294967295; offset = 65535; relative = true; little = true })) ∷
    adds_addresses 8 (replicate 8 (address_of 4294967295 32)) ∷
    on_first (with (entry.Distance (record { offset = negsuc 65534; reference = Match; reverse = false }))) ∷
    on_first (with (entry.Distance (record { offset = pos 65535; reference = Context; reverse = true }))) ∷
    times 14 (adds item.SameIp) ∷
    times 7 adds_pattern ∷
    named (replicate 64 65) 64 ∷
    []

pub broken : List (Table → Table)
broken =
    -- the refusals' empty table
    (λ t. table_of narrow_limits.room []) ∷
    with_protocol 256 ∷
    named [] 0 ∷
    named (replicate 64 65) 65 ∷
    named (97 ∷ 34 ∷ []) 2 ∷
    named (97 ∷ 59 ∷ []) 2 ∷
    named (97 ∷ 10 ∷ []) 2 ∷
    -- room that is not zero
    named (97 ∷ 98 ∷ []) 1 ∷
    (λ t. roomed 2 (set t.bytes 2 1) t) ∷
    adds_addresses 1 (replicate 8 (address_of 1 32)) ∷
    adds_slot (record { item = item.SameIp; addresses = replicate 8 (address_of 1 32) }) ∷
    -- the old kind, also in a slot that is not in use
    adds (item.Number (record { field = IpId; number = 5 })) ∷
    (λ t. placed t.count 23 (slot_of (item.Number (record { field = IpId; number = 0 })) []) t) ∷
    -- numbers beyond their limit
    adds (item.Number (record { field = Tos; number = 256 })) ∷
    adds (item.Ttl (record { order = Less; number = 256 })) ∷
    adds (item.Field (record { field = Ttl; mask = 256; operator = AtMost; number = 0 })) ∷
    adds (item.Field (record { field = Ttl; mask = 255; operator = AtMost; number = 256 })) ∷
    adds (item.At (record { number = 65536; relative = false })) ∷
    adds (item.Byte (record { width = One; operator = Unequal; value = 4294967296; offset = 0; relative = false; little = false })) ∷
    adds (item.Byte (record { width = One; operator = Unequal; value = 0; offset = 65536; relative = false; little = false })) ∷
    adds_addresses 8 (replicate 8 (address_of 1 33)) ∷
    on_first (with (entry.Distance (record { offset = negsuc 65535; reference = Match; reverse = false }))) ∷
    on_first (with (entry.Within (record { number = 65536; reference = Match }))) ∷
    -- counts
    adds item.Unused ∷
    adds_addresses 0 (replicate 8 (address_of 0 0)) ∷
    adds_addresses 9 (replicate 8 (address_of 1 32)) ∷
    times 15 (adds item.SameIp) ∷
    times 8 adds_pattern ∷
    counted 2 ∷
    counted 4 ∷
    counted 25 ∷
    -- pattern parts that don't lie one after the other
    on_first (with_len 0) ∷
    on_first (with_len 1) ∷
    on_first (with_len 3) ∷
    (λ t. roomed 3 t.bytes t) ∷
    (λ t. roomed 1 t.bytes t) ∷
    -- unusable references
    on_first (with (entry.Distance (record { offset = pos 1; reference = Match; reverse = true }))) ∷
    on_first (with (entry.Distance (record { offset = negsuc 0; reference = Context; reverse = true }))) ∷
    on_first (with (entry.Within (record { number = 1; reference = Context }))) ∷
    []

pub formed_by : (Table → Table) → Bool
formed_by f = well_formed (f good)

pub refused_by : (Table → Table) → Bool
refused_by f = not (well_formed (f good))

pub edited : (all? formed_by kept && all? refused_by broken) ≡ true
unfolding computing good with_protocol named counted roomed placed adds_slot adds adds_addresses adds_pattern changed on_first with_len times address_of kept
    broken formed_by refused_by
edited = refl
