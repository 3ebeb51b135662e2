-- What the code's stores and sums in the state rest on, and its answers.
use Rattle.std.specs.Prelude.{◌+◌, ◌≤◌, ◌<◌, ◌≡◌, Some, None}
use Rattle.definitions.specs.declared.table.Slot.{Slot}
use Rattle.definitions.specs.Limits.{max_patterns, max_tests, max_items}
use Rattle.read_state.specs.declared.State.{State}
use Rattle.read_state.specs.declared.Inserted.{Inserted}

pub record Sound (st : State) : Type 0 where
  pub count : st.count ≡ st.patterns + st.tests
  pub patterns : st.patterns ≤ max_patterns
  pub tests : st.tests ≤ max_tests
  pub last : st.last < max_items

-- ---- answers

-- no item is made or changed
abbrev pub without_item : State → Inserted
without_item st = record { state = st; put = None }

-- one item more, after those that there are in st
abbrev pub with_item : State → State → Slot → Inserted
with_item st next sl = record { state = next; put = Some (record { place = st.count; slot = sl }) }
