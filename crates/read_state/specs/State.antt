-- The state that options make, with the pattern bytes and items beside it, and what inserting promises of it.
use Rattle.std.specs.Prelude.{ℕ, suc, ◌+◌, ◌≤◌, ◌<◌, ◌≡◌, Bool, List, [], ◌∷◌, ◌++◌, map, length, take, drop, get_or, set, eqb, if◌then◌else◌, Option, Some, None, Result, Ok, Err}
use Rattle.std.proofs.lemmas.List.Edits.{sets}
use Rattle.definitions.specs.declared.answers.Refusal.{Refusal}
use Rattle.definitions.specs.declared.table.Address.{Address}
use Rattle.definitions.specs.declared.table.Flow.TheVariants.{Any}
use Rattle.definitions.specs.declared.table.Item.TheVariants as item
use Rattle.definitions.specs.declared.table.Slot.{Slot}
use Rattle.definitions.specs.Limits.{document_limits, max_name, max_patterns, max_tests, max_items, max_addresses}
use Rattle.definitions.specs.Lists.{any?, keep, count, padded}
use Rattle.definitions.specs.OptionValues.{Modifier, OptionValue, Name, Protocol, Flow, Test, Pattern, Modified}
use Rattle.definitions.specs.Tables.{name_in, protocol_in, flow_in, bytes_in, slots_in, no_slot, no_address}
use Rattle.definitions.specs.Occurrences.{same_kind, is_test, is_pattern, modifier_number, latest, occurrence_check}
use Rattle.definitions.specs.Reading.{Located, option_values_of}
use Rattle.read_value.specs.declared.Value.{Value}
use Rattle.read_value.specs.declared.Value.TheVariants as value
use Rattle.read_value.specs.Values.{option_value_of}
use Rattle.read_state.specs.declared.Given.{Given}
use Rattle.read_state.specs.declared.State.{State}
use Rattle.read_state.specs.declared.PlacedSlot.{PlacedSlot}
use Rattle.read_state.specs.declared.Inserted.{Inserted}

-- ---- the state of the options said

-- the first dash of each pattern
abbrev pub dashes_of : List Located → List ℕ
dashes_of located = map (λ (d : Located). d.dash) (keep (λ (d : Located). is_pattern d.value) located)

-- a place among the items after one item more, if a pattern stands there
abbrev pub one_past : Bool → ℕ → ℕ
one_past more k = if more then suc k else 0

-- the last pattern's place among the items; 0 if there is none
unfoldable pub last_place : List OptionValue → ℕ
last_place [] = 0
last_place (Name n ∷ es) = last_place es
last_place (Protocol p ∷ es) = last_place es
last_place (Flow f ∷ es) = last_place es
last_place (Test it al ∷ es) = one_past (any? is_pattern es) (last_place es)
last_place (Pattern n b ∷ es) = one_past (any? is_pattern es) (last_place es)
last_place (Modified m ∷ es) = last_place es

-- a modifier of this number stands among some, and after the last pattern
abbrev pub modifier_among : ℕ → List Modifier → Bool
modifier_among k ms = any? (λ (m : Modifier). eqb k (modifier_number m)) ms

abbrev pub modifier_given : ℕ → List OptionValue → Bool
modifier_given k es = modifier_among k (latest [] es)

abbrev pub given_in : List OptionValue → Given
given_in es =
    record {
      name = any? (same_kind (Name [])) es;
      protocol = any? (same_kind (Protocol 0)) es;
      flow = any? (same_kind (Flow Any)) es;
      context = modifier_given 0 es;
      nocase = modifier_given 1 es;
      distance = modifier_given 2 es;
      within = modifier_given 3 es;
    }

-- the state of the options es, whose patterns have these first dashes and whose name begins at a place
unfoldable pub state_from : ℕ → List OptionValue → List ℕ → State
state_from from es dashes =
    record {
      from = from;
      len = length (name_in es);
      protocol = protocol_in es;
      flow = flow_in es;
      used = length (bytes_in es);
      count = length (slots_in es);
      given = given_in es;
      patterns = count is_pattern es;
      tests = count is_test es;
      last = last_place es;
      dashes = padded max_patterns 0 dashes;
    }

-- THE STATE of the options said, whose name begins at a place
abbrev pub state_of : ℕ → List Located → State
state_of from located = state_from from (option_values_of located) (dashes_of located)

-- a name that a table has room for stands at a place of the text s
pub record NameAt (s : List ℕ) (from len : ℕ) (name : List ℕ) : Type 0 where
  pub is : take len (drop from s) ≡ name
  pub inside : from + len ≤ length s
  pub short : len ≤ max_name

-- the options said in the text s make the state, with the pattern bytes and the items beside it, and no more was counted than a table holds
pub record Holds (s : List ℕ) (located : List Located) (st : State) (bytes : List ℕ) (items : List Slot) : Type 0 where
  pub is : st ≡ state_of st.from located
  pub named : NameAt s st.from st.len (name_in (option_values_of located))
  pub stored : bytes ≡ padded document_limits.room 0 (bytes_in (option_values_of located))
  pub slots : items ≡ padded max_items no_slot (slots_in (option_values_of located))
  pub patterns : count is_pattern (option_values_of located) ≤ max_patterns
  pub tests : count is_test (option_values_of located) ≤ max_tests

-- the slot of the last pattern; what is named for past the end is what the logic takes there
abbrev pub last_slot : List Slot → State → Slot
last_slot items st = get_or items st.last (record { item = item.Unused; addresses = [] })

-- ---- what stands beside a value

-- nothing beside a value that has neither addresses nor pattern bytes
abbrev pub Alone : List Address → List ℕ → Type 0
Alone al b = (al ≡ []) × (b ≡ [])

-- the addresses al and the pattern bytes b are those of a value of the text s
abbrev pub Apart : List ℕ → Value → List Address → List ℕ → Type 0
Apart s (value.Name from n) al b = (1 ≤ n) × (n ≤ max_name) × (from + n ≤ length s) × (al ≡ []) × (b ≡ [])
Apart s (value.Protocol p) al b = Alone al b
Apart s (value.Flow f) al b = Alone al b
Apart s (value.Test it) al b = Alone al b
Apart s (value.Addresses a) al b = (a.count ≡ length al) × (b ≡ [])
Apart s (value.Pattern negated n) al b = (n ≡ length b) × (al ≡ [])
Apart s (value.Context c) al b = Alone al b
Apart s value.NoCase al b = Alone al b
Apart s (value.Distance d) al b = Alone al b
Apart s (value.Within w) al b = Alone al b

-- of the addresses the first eight are kept; the pattern bytes are counted after those of the state
pub record Beside (s : List ℕ) (st : State) (v : Value) (list : List Address) (used : ℕ) (al : List Address) (b : List ℕ) : Type 0 where
  pub addresses : list ≡ padded max_addresses no_address (take max_addresses al)
  pub counted : used ≡ st.used + length b
  pub fits : st.used + length b ≤ document_limits.room
  pub apart : Apart s v al b

-- ---- the contracts of inserting

-- what one option more stands after and brings: some options make the state, `last` is the slot of the last pattern among them, and some addresses and
-- pattern bytes stand beside the value
pub record After (st : State) (last : Slot) (v : Value) (list : List Address) (used : ℕ) : Type 0 where
  pub text : List ℕ
  pub located : List Located
  pub bytes : List ℕ
  pub items : List Slot
  pub al : List Address
  pub b : List ℕ
  pub holds : Holds text located st bytes items
  pub latest : last ≡ last_slot items st
  pub beside : Beside text st v list used al b

-- the option that the value stands for
abbrev pub option_in : {st : State} {last : Slot} {v : Value} {list : List Address} {used : ℕ} → After st last v list used → OptionValue
option_in {v = v} k = option_value_of k.text v k.al k.b

-- the options said and one more
abbrev pub located_also : List Located → ℕ → OptionValue → List Located
located_also located dash e = located ++ (record { dash = dash; value = e } ∷ [])

-- the items after a slot was put among them, if one was, and that its place is one of theirs
abbrev pub put_in : List Slot → Option PlacedSlot → List Slot
put_in items None = items
put_in items (Some p) = set items p.place p.slot

abbrev pub Inside : Option PlacedSlot → Type 0
Inside None = Unit {0}
Inside (Some p) = p.place < max_items

-- an option more, whose pattern bytes are stored already: a refusal is what is due for it; else nothing is, and the state holds it, with its slot put
abbrev pub Inserts : List ℕ → List Located → ℕ → OptionValue → List ℕ → List Slot → Result Inserted Refusal → Type 0
Inserts s located dash e bytes items (Err r) = occurrence_check (option_values_of located) e ≡ Err r
Inserts s located dash e bytes items (Ok n) =
    (occurrence_check (option_values_of located) e ≡ Ok tt)
    × Holds s (located_also located dash e) n.state bytes (put_in items n.put) × Inside n.put

-- whichever these are, with the value's bytes stored
abbrev pub InsertedRight : State → Slot → ℕ → Value → List Address → ℕ → Result Inserted Refusal → Type 0
InsertedRight st last dash v list used r =
    (k : After st last v list used) → Inserts k.text k.located dash (option_in k) (sets k.bytes st.used k.b) k.items r
