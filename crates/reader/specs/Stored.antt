-- The options of a text, stored where they are read.
use Rattle.std.specs.Prelude.{ℕ, ◌+◌, ◌≤◌, ◌≡◌, List, length, Result, Ok, Err}
use Rattle.definitions.specs.declared.answers.TextRefusal.{TextRefusal}
use Rattle.definitions.specs.declared.table.Slot.{Slot}
use Rattle.definitions.specs.Limits.{document_limits, max_name}
use Rattle.definitions.specs.Reading.{refused_reading, accepted_reading, read}
use Rattle.read_state.specs.declared.State.{State}
use Rattle.read_insert.specs.Checking.{table_in}

-- a refusal is the definition's; a state makes the definition's table with the pattern bytes and items beside it, and its name stands in the text
abbrev pub StoresOptions : List ℕ → List ℕ → List Slot → Result State TextRefusal → Type 0
StoresOptions s bytes items (Err e) = read document_limits s ≡ refused_reading document_limits.room e.refusal e.place
StoresOptions s bytes items (Ok st) =
    (read document_limits s ≡ accepted_reading (table_in s st bytes items)) × (st.len ≤ max_name) × (st.from + st.len ≤ length s)
