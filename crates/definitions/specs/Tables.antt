-- The table that options make. Section "Text", the paragraphs after the table of options; unused room is zero.
use Rattle.std.specs.Prelude.{ℕ, Bool, true, false, List, [], ◌∷◌, ◌++◌, length, Some, None}
use Rattle.definitions.specs.declared.table.Flow as flows
use Rattle.definitions.specs.declared.table.Flow.TheVariants as flow
use Rattle.definitions.specs.declared.table.Context.TheVariants as context
use Rattle.definitions.specs.declared.table.Pattern as patterns
use Rattle.definitions.specs.declared.table.Item.{Item}
use Rattle.definitions.specs.declared.table.Item.TheVariants as item
use Rattle.definitions.specs.declared.table.Address.{Address}
use Rattle.definitions.specs.declared.table.Slot.{Slot}
use Rattle.definitions.specs.declared.table.Table.{Table}
use Rattle.definitions.specs.Limits.{max_name, max_items, max_addresses}
use Rattle.definitions.specs.Lists.{padded}
use Rattle.definitions.specs.OptionValues.{Modifier, Context, NoCase, Distance, Within, OptionValue, Name, Protocol, Flow, Test, Pattern, Modified}

-- ---- name, protocol and flow: of the first option that says it

unfoldable pub name_in : List OptionValue → List ℕ
name_in [] = []
name_in (Name n ∷ es) = n
name_in (Protocol p ∷ es) = name_in es
name_in (Flow f ∷ es) = name_in es
name_in (Test it al ∷ es) = name_in es
name_in (Pattern n b ∷ es) = name_in es
name_in (Modified m ∷ es) = name_in es

unfoldable pub protocol_in : List OptionValue → ℕ
protocol_in [] = 0
protocol_in (Name n ∷ es) = protocol_in es
protocol_in (Protocol p ∷ es) = p
protocol_in (Flow f ∷ es) = protocol_in es
protocol_in (Test it al ∷ es) = protocol_in es
protocol_in (Pattern n b ∷ es) = protocol_in es
protocol_in (Modified m ∷ es) = protocol_in es

unfoldable pub flow_in : List OptionValue → flows.Flow
flow_in [] = flow.Any
flow_in (Name n ∷ es) = flow_in es
flow_in (Protocol p ∷ es) = flow_in es
flow_in (Flow f ∷ es) = f
flow_in (Test it al ∷ es) = flow_in es
flow_in (Pattern n b ∷ es) = flow_in es
flow_in (Modified m ∷ es) = flow_in es

-- ---- a pattern and its modifiers

-- a pattern of n bytes without modifiers, and with one more
abbrev pub bare : Bool → ℕ → patterns.Pattern
bare negated n = record { negated = negated; len = n; context = context.Packet; nocase = false; distance = None; within = None }

abbrev pub with : Modifier → patterns.Pattern → patterns.Pattern
with (Context c) p = record { negated = p.negated; len = p.len; context = c; nocase = p.nocase; distance = p.distance; within = p.within }
with NoCase p = record { negated = p.negated; len = p.len; context = p.context; nocase = true; distance = p.distance; within = p.within }
with (Distance d) p = record { negated = p.negated; len = p.len; context = p.context; nocase = p.nocase; distance = Some d; within = p.within }
with (Within w) p = record { negated = p.negated; len = p.len; context = p.context; nocase = p.nocase; distance = p.distance; within = Some w }

-- the pattern p with the modifiers among the options after it, up to the next pattern
unfoldable pub modified : List OptionValue → patterns.Pattern → patterns.Pattern
modified [] p = p
modified (Name n ∷ es) p = modified es p
modified (Protocol q ∷ es) p = modified es p
modified (Flow f ∷ es) p = modified es p
modified (Test it al ∷ es) p = modified es p
modified (Pattern n b ∷ es) p = p
modified (Modified m ∷ es) p = modified es (with m p)

-- ---- the items, kept in text order

abbrev pub no_address : Address
no_address = record { number = 0; prefix = 0 }

abbrev pub slot_of : Item → List Address → Slot
slot_of it al = record { item = it; addresses = padded max_addresses no_address al }

abbrev pub no_slot : Slot
no_slot = slot_of item.Unused []

unfoldable pub slots_in : List OptionValue → List Slot
slots_in [] = []
slots_in (Name n ∷ es) = slots_in es
slots_in (Protocol p ∷ es) = slots_in es
slots_in (Flow f ∷ es) = slots_in es
slots_in (Test it al ∷ es) = slot_of it al ∷ slots_in es
slots_in (Pattern n b ∷ es) = slot_of (item.Pattern (modified es (bare n (length b)))) [] ∷ slots_in es
slots_in (Modified m ∷ es) = slots_in es

-- the pattern bytes, one pattern's after the other's
unfoldable pub bytes_in : List OptionValue → List ℕ
bytes_in [] = []
bytes_in (Name n ∷ es) = bytes_in es
bytes_in (Protocol p ∷ es) = bytes_in es
bytes_in (Flow f ∷ es) = bytes_in es
bytes_in (Test it al ∷ es) = bytes_in es
bytes_in (Pattern n b ∷ es) = b ++ bytes_in es
bytes_in (Modified m ∷ es) = bytes_in es

-- THE TABLE of the options, with room for so many pattern bytes; of no options it is the empty table of a refusal
unfoldable pub table_of : ℕ → List OptionValue → Table
table_of room es =
    record {
      name = padded max_name 0 (name_in es);
      len = length (name_in es);
      protocol = protocol_in es;
      flow = flow_in es;
      bytes = padded room 0 (bytes_in es);
      used = length (bytes_in es);
      items = padded max_items no_slot (slots_in es);
      count = length (slots_in es);
    }

-- a table by its parts, for the contracts of functions that take of a table what they use
abbrev pub table_with : List ℕ → ℕ → ℕ → flows.Flow → List ℕ → ℕ → List Slot → ℕ → Table
table_with name len protocol flow bytes used items count =
    record { name = name; len = len; protocol = protocol; flow = flow; bytes = bytes; used = used; items = items; count = count }
