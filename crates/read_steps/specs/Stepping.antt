-- One option of a text, as the definitions take it.
use Rattle.std.specs.Prelude.{ℕ, ◌+◌, ◌≤◌, ◌<◌, ◌≡◌, List, length, get_or, drop, eqb, if◌then◌else◌, Result, Ok, Err}
use Rattle.definitions.specs.declared.answers.Refusal.{Refusal}
use Rattle.definitions.specs.declared.answers.Refusal.TheVariants as refusal
use Rattle.definitions.specs.declared.answers.TextRefusal.{TextRefusal}
use Rattle.definitions.specs.declared.table.Slot.{Slot}
use Rattle.definitions.specs.Limits.{document_limits}
use Rattle.definitions.specs.OptionValues.{OptionValue}
use Rattle.definitions.specs.Options.{option_at}
use Rattle.definitions.specs.Reading.{Located, option_values_of, Options, ended, refused, at_letter, option_step, options}
use Rattle.read_state.specs.declared.State.{State}
use Rattle.read_state.specs.declared.Inserted.{Inserted}
use Rattle.read_state.specs.State.{Holds, last_slot, located_also, put_in, Inside, InsertedRight}
use Rattle.read_by_name.specs.declared.parsed.ParsedOption.{ParsedOption}
use Rattle.read_steps.specs.declared.Step.{Step}
use Rattle.read_steps.specs.declared.Step.TheVariants.{Next, Done}

-- the option that was read is inserted as `insert` does it, and the text goes on at a place unless something is due
abbrev pub step_by : Result Inserted Refusal → ℕ → ℕ → Result Step TextRefusal
step_by (Ok e) at next = Ok (Next next e)
step_by (Err r) at next = Err (record { refusal = r; place = at })

abbrev pub InsertsOption : State → Slot → ℕ → ParsedOption → ℕ → Result Step TextRefusal → Type 0
InsertsOption st last at p next r =
    (e : Result Inserted Refusal) × InsertedRight st last at p.value p.list p.used e × (r ≡ step_by e at next)

-- where an option begins: some options make the state, no more pattern bytes are in use than stand before, and two bytes stand there
pub record Steppable (s bytes : List ℕ) (st : State) (last : Slot) (at : ℕ) : Type 0 where
  pub located : List Located
  pub items : List Slot
  pub holds : Holds s located st bytes items
  pub latest : last ≡ last_slot items st
  pub after : st.used ≤ at
  pub inside : at + 2 ≤ length s
  pub short : length s ≤ document_limits.text

-- a refusal is the definition's, and so is the way on: to an option and a place after it, with its bytes stored and its slot put
abbrev pub StepsTo : List ℕ → List Located → ℕ → Result Step TextRefusal → List ℕ → List Slot → Type 0
StepsTo s located at (Err e) bytes items =
    (K : OptionValue → ℕ → Options) → option_step at_letter (option_at s at) (option_values_of located) at K ≡ refused e.refusal e.place
StepsTo s located at (Ok Done) bytes items = ⊥
StepsTo s located at (Ok (Next n i)) bytes items =
    (e : OptionValue) × ((K : OptionValue → ℕ → Options) → option_step at_letter (option_at s at) (option_values_of located) at K ≡ K e n)
    × Holds s (located_also located at e) i.state bytes (put_in items i.put) × Inside i.put × (i.state.used ≤ n) × (at + 2 ≤ n) × (n ≤ length s)

abbrev pub Steps : List ℕ → List ℕ → State → Slot → ℕ → List ℕ → Result Step TextRefusal → Type 0
Steps s bytes st last at after r =
    (located : List Located) (items : List Slot) → Holds s located st bytes items → last ≡ last_slot items st → StepsTo s located at r after items

-- ---- a step of the loop over a text

abbrev pub closing_step : ℕ → ℕ → Result Step TextRefusal
closing_step after len = if eqb after len then Ok Done else Err (record { refusal = refusal.NeitherOptionNorEnd; place = after })

-- where the loop stands, at no space: some options make the state, and no more pattern bytes are in use than stand before
pub record Placed (s bytes : List ℕ) (st : State) (last : Slot) (at : ℕ) : Type 0 where
  pub located : List Located
  pub items : List Slot
  pub holds : Holds s located st bytes items
  pub latest : last ≡ last_slot items st
  pub after : st.used ≤ at
  pub inside : at < length s
  pub solid : get_or s at 0 ≡ 32 → ⊥
  pub short : length s ≤ document_limits.text

-- what the definition's loop does from the place on; at the end all stays as it was
abbrev pub GoesTo : List ℕ → List Located → ℕ → List ℕ → Result Step TextRefusal → List ℕ → List Slot → Type 0
GoesTo s located at bytes (Err e) after items = options at_letter s (drop at s) 0 at located ≡ refused e.refusal e.place
GoesTo s located at bytes (Ok Done) after items = (options at_letter s (drop at s) 0 at located ≡ ended located) × (after ≡ bytes)
GoesTo s located at bytes (Ok (Next n i)) after items =
    (more : List Located) × (options at_letter s (drop at s) 0 at located ≡ options at_letter s (drop n s) 0 n more)
    × Holds s more i.state after (put_in items i.put) × Inside i.put × (i.state.used ≤ n) × (at < n) × (n ≤ length s)

abbrev pub Goes : List ℕ → List ℕ → State → Slot → ℕ → List ℕ → Result Step TextRefusal → Type 0
Goes s bytes st last at after r =
    (located : List Located) (items : List Slot) → Holds s located st bytes items → last ≡ last_slot items st → st.used ≤ at
    → GoesTo s located at bytes r after items
