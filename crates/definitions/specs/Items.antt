-- What the definitions tell apart among a table's items: all but the first three kinds are tests without addresses.
use Rattle.std.specs.Prelude.{ℕ, List, [], ◌∷◌, take, drop}
use Rattle.definitions.specs.declared.table.AddressTest.{AddressTest}
use Rattle.definitions.specs.declared.table.Pattern.{Pattern}
use Rattle.definitions.specs.declared.table.Item.{Item}
use Rattle.definitions.specs.declared.table.Item.TheVariants as item
use Rattle.definitions.specs.declared.table.Slot.{Slot}
use Rattle.definitions.specs.declared.table.Table.{Table}

pub data Kind : Type 0 where
  unused : Kind
  addressed : AddressTest → Kind
  patterned : Pattern → Kind
  plain_test : Kind

abbrev pub kind_of : Item → Kind
kind_of item.Unused = unused
kind_of (item.Address a) = addressed a
kind_of item.SameIp = plain_test
kind_of (item.Number a) = plain_test
kind_of (item.Ttl a) = plain_test
kind_of (item.Field a) = plain_test
kind_of (item.Size a) = plain_test
kind_of (item.At a) = plain_test
kind_of (item.Byte a) = plain_test
kind_of (item.Pattern p) = patterned p

-- the slots in use
abbrev pub slots_of : Table → List Slot
slots_of t = take t.count t.items

-- the patterns among some slots
abbrev pub pattern_first : Kind → List Pattern → List Pattern
pattern_first unused ps = ps
pattern_first (addressed a) ps = ps
pattern_first (patterned p) ps = p ∷ ps
pattern_first plain_test ps = ps

unfoldable pub patterns_of : List Slot → List Pattern
patterns_of [] = []
patterns_of (sl ∷ sls) = pattern_first (kind_of sl.item) (patterns_of sls)

-- the pattern bytes after those of an item
abbrev pub after_item : Kind → List ℕ → List ℕ
after_item unused b = b
after_item (addressed a) b = b
after_item (patterned p) b = drop p.len b
after_item plain_test b = b
