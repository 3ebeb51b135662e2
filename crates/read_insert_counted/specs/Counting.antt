-- What the code does to the state for a test and a pattern, step by step.
use Rattle.std.specs.Prelude.{ℕ, ◌+◌, Bool, false, List, set, ltb, leb, if◌then◌else◌, Result, Ok, Err}
use Rattle.definitions.specs.declared.answers.Refusal.{Refusal}
use Rattle.definitions.specs.declared.answers.Refusal.TheVariants as refusal
use Rattle.definitions.specs.declared.table.AddressTest.{AddressTest}
use Rattle.definitions.specs.declared.table.Item.{Item}
use Rattle.definitions.specs.declared.table.Item.TheVariants as item
use Rattle.definitions.specs.declared.table.Address.{Address}
use Rattle.definitions.specs.Limits.{max_patterns, max_tests, max_addresses}
use Rattle.definitions.specs.Tables.{bare}
use Rattle.read_state.specs.declared.Given.{Given}
use Rattle.read_state.specs.declared.State.{State}
use Rattle.read_state.specs.declared.Inserted.{Inserted}
use Rattle.read_state.specs.Sound.{with_item}

-- one test more
abbrev pub with_test : State → State
with_test st = record st { count = st.count + 1; tests = st.tests + 1 }

unfoldable pub test_inserted : State → Item → List Address → Result Inserted Refusal
test_inserted st it list =
    if leb max_tests st.tests then Err refusal.CountExceeded
    else Ok (with_item st (with_test st) (record { item = it; addresses = list }))

unfoldable pub addresses_inserted : State → AddressTest → List Address → Result Inserted Refusal
addresses_inserted st a list =
    if ltb max_addresses a.count then Err refusal.CountExceeded
    else test_inserted st (item.Address a) list

-- no modifier is given after a new pattern
abbrev pub no_modifiers : Given → Given
no_modifiers g = record g { context = false; nocase = false; distance = false; within = false }

-- one pattern more, up to whose bytes so many are in use
abbrev pub with_new_pattern : State → ℕ → ℕ → State
with_new_pattern st dash used =
    record st {
      used = used;
      count = st.count + 1;
      given = no_modifiers st.given;
      patterns = st.patterns + 1;
      last = st.count;
      dashes = set st.dashes st.patterns dash;
    }

unfoldable pub pattern_inserted : State → ℕ → Bool → ℕ → List Address → ℕ → Result Inserted Refusal
pattern_inserted st dash negated n list used =
    if leb max_patterns st.patterns then Err refusal.CountExceeded
    else Ok (with_item st (with_new_pattern st dash used) (record { item = item.Pattern (bare negated n); addresses = list }))
