-- What the code does to the state for a modifier, step by step.
use Rattle.std.specs.Prelude.{Bool, true, false, eqb, if◌then◌else◌, Some, Result, Ok, Err}
use Rattle.definitions.specs.declared.answers.Refusal.{Refusal}
use Rattle.definitions.specs.declared.answers.Refusal.TheVariants as refusal
use Rattle.definitions.specs.declared.table.Pattern.{Pattern}
use Rattle.definitions.specs.declared.table.Item.{Item}
use Rattle.definitions.specs.declared.table.Item.TheVariants as item
use Rattle.definitions.specs.declared.table.Slot.{Slot}
use Rattle.definitions.specs.OptionValues.{Modifier, Context, NoCase, Distance, Within}
use Rattle.definitions.specs.Tables.{bare, with}
use Rattle.definitions.specs.Items.{Kind, unused, addressed, patterned, plain_test, kind_of}
use Rattle.read_state.specs.declared.Given.{Given}
use Rattle.read_state.specs.declared.State.{State}
use Rattle.read_state.specs.declared.Inserted.{Inserted}

-- the pattern of an item; of any other item one that says nothing
abbrev pub pattern_in : Kind → Pattern
pattern_in unused = bare false 0
pattern_in (addressed a) = bare false 0
pattern_in (patterned p) = p
pattern_in plain_test = bare false 0

unfoldable pub pattern_of : Item → Pattern
pattern_of it = pattern_in (kind_of it)

abbrev pub with_given : State → Given → State
with_given st g = record st { given = g }

-- a slot with another pattern in it
abbrev pub slot_with : Slot → Pattern → Slot
slot_with sl p = record sl { item = item.Pattern p }

unfoldable pub modifier_by : State → Slot → Bool → Pattern → Given → Result Inserted Refusal
modifier_by st last again p g =
    if eqb st.patterns 0 then Err refusal.ModifierWithoutPattern
    else if again then Err refusal.Repeated
    else Ok (record { state = with_given st g; put = Some (record { place = st.last; slot = slot_with last p }) })

-- whether it was given, and that it is
abbrev pub already : Modifier → Given → Bool
already (Context c) g = g.context
already NoCase g = g.nocase
already (Distance d) g = g.distance
already (Within w) g = g.within

abbrev pub given_also : Modifier → Given → Given
given_also (Context c) g = record g { context = true }
given_also NoCase g = record g { nocase = true }
given_also (Distance d) g = record g { distance = true }
given_also (Within w) g = record g { within = true }

-- where `last` is the slot of the last pattern
abbrev pub modifier_inserted : State → Slot → Modifier → Result Inserted Refusal
modifier_inserted st last m = modifier_by st last (already m st.given) (with m (pattern_of last.item)) (given_also m st.given)
