-- The judgement at the end, as the code goes about it: over the state of a text and its items; and the table, with the pattern bytes beside them.
use Rattle.std.specs.Prelude.{ℕ, not, ◌||◌, List, get_or, take, drop, ltb, if◌then◌else◌, None, Result, Ok, Err}
use Rattle.definitions.specs.Limits.{document_limits, max_name}
use Rattle.definitions.specs.Lists.{padded}
use Rattle.definitions.specs.declared.answers.Refusal.TheVariants as refusal
use Rattle.definitions.specs.declared.answers.Reading.{Reading}
use Rattle.definitions.specs.declared.table.Slot.{Slot}
use Rattle.definitions.specs.declared.table.Table.{Table}
use Rattle.definitions.specs.Items.{patterns_of}
use Rattle.definitions.specs.References.{usable_run}
use Rattle.definitions.specs.Reading.{refused_reading, accepted_reading}
use Rattle.read_state.specs.declared.State.{State}
use Rattle.definitions.specs.declared.answers.TextRefusal.{TextRefusal}

unfoldable pub table_in : List ℕ → State → List ℕ → List Slot → Table
table_in s st bytes items =
    record {
      name = padded max_name 0 (take st.len (drop st.from s));
      len = st.len;
      protocol = st.protocol;
      flow = st.flow;
      bytes = bytes;
      used = st.used;
      items = items;
      count = st.count;
    }

abbrev pub usable_held : State → List Slot → ℕ
usable_held st items = usable_run None (patterns_of (take st.count items))

-- what the judgement answers, of a text of n bytes
unfoldable pub outcome_in : ℕ → State → List Slot → Result Unit TextRefusal
outcome_in n st items =
    if ltb (usable_held st items) st.patterns then Err (record { refusal = refusal.Unusable; place = get_or st.dashes (usable_held st items) 0 })
    else if not st.given.name || not st.given.protocol then Err (record { refusal = refusal.Missing; place = n })
    else Ok tt

-- the reading of an answer and the table of what was read: a refusal's table is that of no options
abbrev pub reading_by : Result Unit TextRefusal → Table → Reading
reading_by (Ok tt) t = accepted_reading t
reading_by (Err e) t = refused_reading document_limits.room e.refusal e.place
