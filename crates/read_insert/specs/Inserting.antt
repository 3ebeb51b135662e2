-- What the code does to the state for each value, step by step. That this is the state of one option more is proved in proofs/.
use Rattle.std.specs.Prelude.{ℕ, Bool, true, List, if◌then◌else◌, Result, Ok, Err}
use Rattle.definitions.specs.declared.answers.Refusal.{Refusal}
use Rattle.definitions.specs.declared.answers.Refusal.TheVariants as refusal
use Rattle.definitions.specs.declared.table.Flow as flows
use Rattle.definitions.specs.declared.table.Address.{Address}
use Rattle.definitions.specs.declared.table.Slot.{Slot}
use Rattle.definitions.specs.OptionValues.{Context, NoCase, Distance, Within}
use Rattle.read_value.specs.declared.Value.{Value}
use Rattle.read_value.specs.declared.Value.TheVariants as value
use Rattle.read_state.specs.declared.State.{State}
use Rattle.read_state.specs.declared.Inserted.{Inserted}
use Rattle.read_state.specs.Sound.{without_item}
use Rattle.read_insert_counted.specs.Counting.{test_inserted, addresses_inserted, pattern_inserted}
use Rattle.read_insert_modifiers.specs.Modifying.{modifier_inserted}

-- ---- name, protocol and flow

abbrev pub with_name : State → ℕ → ℕ → State
with_name st from n = record st { from = from; len = n; given = record (st.given) { name = true } }

abbrev pub with_protocol : State → ℕ → State
with_protocol st p = record st { protocol = p; given = record (st.given) { protocol = true } }

abbrev pub with_flow : State → flows.Flow → State
with_flow st f = record st { flow = f; given = record (st.given) { flow = true } }

-- given once before or not, and the state with it
abbrev pub inserted_once : Bool → State → Result Inserted Refusal
inserted_once again st = if again then Err refusal.Repeated else Ok (without_item st)

unfoldable pub name_inserted : State → ℕ → ℕ → Result Inserted Refusal
name_inserted st from n = inserted_once st.given.name (with_name st from n)

unfoldable pub protocol_inserted : State → ℕ → Result Inserted Refusal
protocol_inserted st p = inserted_once st.given.protocol (with_protocol st p)

unfoldable pub flow_inserted : State → flows.Flow → Result Inserted Refusal
flow_inserted st f = inserted_once st.given.flow (with_flow st f)

-- ---- any value, where `last` is the slot of the last pattern

unfoldable pub value_inserted : State → Slot → ℕ → Value → List Address → ℕ → Result Inserted Refusal
value_inserted st last dash (value.Name from n) list used = name_inserted st from n
value_inserted st last dash (value.Protocol p) list used = protocol_inserted st p
value_inserted st last dash (value.Flow f) list used = flow_inserted st f
value_inserted st last dash (value.Test it) list used = test_inserted st it list
value_inserted st last dash (value.Addresses a) list used = addresses_inserted st a list
value_inserted st last dash (value.Pattern negated n) list used = pattern_inserted st dash negated n list used
value_inserted st last dash (value.Context c) list used = modifier_inserted st last (Context c)
value_inserted st last dash value.NoCase list used = modifier_inserted st last NoCase
value_inserted st last dash (value.Distance d) list used = modifier_inserted st last (Distance d)
value_inserted st last dash (value.Within w) list used = modifier_inserted st last (Within w)
