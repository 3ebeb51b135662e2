-- The contracts of inserting, of what the code does: a value by its kind, at any options that make the state; and the judgement at the end.
use Rattle.std.specs.Prelude.{if◌then◌else◌, None, Ok, Err}
use mathlib.Core.Path.{◌≡◌, refl, sym, ap, subst, ◌∙◌}
use mathlib.Core.Bool.{Bool, true, false, not, ◌||◌}
use mathlib.Core.List.{List, []}
use Prim.Native.Nat.{ℕ, ◌-◌, ◌<◌}
use native.Mathlib.Omega.{arith}
use lib.ListN.{length, take, replicate}
use lib.Seq.{sets, take-append_seam}
use lib.Dec.{ltb}
use borrow.Author.Tests.{ltb-true}
use Rattle.forms.proofs.Bools.{by_cases}
use Rattle.definitions.specs.declared.answers.Refusal.TheVariants as refusal
use Rattle.definitions.specs.declared.table.Address.{Address}
use Rattle.definitions.specs.declared.table.Slot.{Slot}
use Rattle.definitions.specs.declared.table.Table.{Table}
use Rattle.definitions.specs.Limits.{document_limits, max_patterns, max_items, max_addresses}
use Rattle.definitions.specs.Lists.{any?, count, padded}
use Rattle.definitions.specs.OptionValues.{Context, NoCase, Distance, Within, OptionValue, Name, Protocol}
use Rattle.definitions.specs.Tables.{slots_in, no_slot, no_address, table_of}
use Rattle.definitions.specs.Items.{patterns_of}
use Rattle.definitions.specs.References.{usable_run, usable_in}
use Rattle.definitions.specs.Occurrences.{same_kind, is_pattern, missing}
use Rattle.definitions.specs.Reading.{Located, option_values_of, refused_reading, accepted_reading, checked_table}
use Rattle.read_value.specs.declared.Value.{Value}
use Rattle.read_value.specs.declared.Value.TheVariants as value
use Rattle.read_value.specs.Values.{option_value_of}
use Rattle.read_state.specs.declared.State.{State}
use Rattle.read_state.specs.State.{dashes_of, state_from, state_of, Holds, last_slot, Beside, option_in, Inserts, InsertedRight}
use Rattle.read_insert.specs.Inserting.{value_inserted}
use Rattle.read_insert.specs.Checking.{table_in, usable_held, outcome_in, reading_by}
use Rattle.list_laws.proofs.Padded.{padded_at}
use Rattle.read_insert.proofs.OneMore.{count_none, dashes_length}
use Rattle.read_insert.proofs.Outcomes.{name_outcome, protocol_outcome, flow_outcome}
use Rattle.read_insert.proofs.Outcomes.{test_outcome, addresses_outcome, pattern_outcome, modifier_outcome}

-- ---- inserting

no_addresses : (al list : List Address) → al ≡ [] → list ≡ padded max_addresses no_address (take max_addresses al) → list ≡ padded max_addresses no_address []
no_addresses al list e h = h ∙ ap (λ (l : List Address). padded max_addresses no_address (take max_addresses l)) e

module _ (s : List ℕ) (located : List Located) (dash from : ℕ) (bytes : List ℕ) (items : List Slot) (h : Holds s located (state_of from located) bytes items)
    (last : Slot) (at_last : last ≡ last_slot items (state_of from located)) (list : List Address) (used : ℕ) (al : List Address) (b : List ℕ) where
  abbrev now : State
  now = state_of from located

  -- a value without pattern bytes stores none
  none_stored : (v : Value) → b ≡ [] → Inserts s located dash (option_value_of s v al b) bytes items (value_inserted now last dash v list used)
      → Inserts s located dash (option_value_of s v al b) (sets bytes now.used b) items (value_inserted now last dash v list used)
  none_stored v z o =
      subst (λ (l : List ℕ). Inserts s located dash (option_value_of s v al b) (sets bytes now.used l) items (value_inserted now last dash v list used)) (sym z) o

  value_outcome : (v : Value) → Beside s now v list used al b
      → Inserts s located dash (option_value_of s v al b) (sets bytes now.used b) items (value_inserted now last dash v list used)
  unfolding option_value_of value_inserted
  value_outcome (value.Name at n) k = none_stored (value.Name at n) k.apart.4 (name_outcome s located dash from bytes items h at n k.apart.1 k.apart.2)
  value_outcome (value.Protocol p) k = none_stored (value.Protocol p) k.apart.1 (protocol_outcome s located dash from bytes items h p)
  value_outcome (value.Flow f) k = none_stored (value.Flow f) k.apart.1 (flow_outcome s located dash from bytes items h f)
  value_outcome (value.Test it) k =
      none_stored (value.Test it) k.apart.1
      (test_outcome s located dash from bytes items h it [] list (omega arith) (no_addresses al list k.apart.0 k.addresses))
  value_outcome (value.Addresses a) k =
      none_stored (value.Addresses a) k.apart.1 (addresses_outcome s located dash from bytes items h a al list k.apart.0 k.addresses)
  value_outcome (value.Pattern negated n) k =
      pattern_outcome s located dash from bytes items h negated n b list used k.apart.0 (no_addresses al list k.apart.1 k.addresses)
      k.counted k.fits
  value_outcome (value.Context c) k = none_stored (value.Context c) k.apart.1 (modifier_outcome s located dash from bytes items h (Context c) last at_last)
  value_outcome value.NoCase k = none_stored value.NoCase k.apart.1 (modifier_outcome s located dash from bytes items h NoCase last at_last)
  value_outcome (value.Distance d) k = none_stored (value.Distance d) k.apart.1 (modifier_outcome s located dash from bytes items h (Distance d) last at_last)
  value_outcome (value.Within w) k = none_stored (value.Within w) k.apart.1 (modifier_outcome s located dash from bytes items h (Within w) last at_last)

pub inserted_right : (st : State) (last : Slot) (dash : ℕ) (v : Value) (list : List Address) (used : ℕ)
    → InsertedRight st last dash v list used (value_inserted st last dash v list used)
inserted_right st last dash v list used k =
    subst (λ (x : State). Holds k.text k.located x k.bytes k.items → last ≡ last_slot k.items x
    → Beside k.text x v list used k.al k.b
    → Inserts k.text k.located dash (option_in k) (sets k.bytes x.used k.b) k.items (value_inserted x last dash v list used))
    (sym k.holds.is)
    (λ h e. value_outcome k.text k.located dash st.from k.bytes k.items h last e list used k.al k.b v)
    k.holds k.latest k.beside

-- ---- judging

-- a refusal, or the table
missing_by : (n : ℕ) (t : Table) (a : Bool)
    → reading_by (if a then Err (record { refusal = refusal.Missing; place = n }) else (Ok tt)) t
    ≡ (if a then refused_reading document_limits.room refusal.Missing n else accepted_reading t)
missing_by n t true = refl
missing_by n t false = refl

checked_at : (s : List ℕ) (located : List Located) (from : ℕ) (bytes : List ℕ) (items : List Slot) → Holds s located (state_of from located) bytes items
    → reading_by (outcome_in (length s) (state_of from located) items) (table_in s (state_of from located) bytes items)
    ≡ checked_table document_limits.room s located
unfolding outcome_in checked_table state_from table_in table_of missing
checked_at s located from bytes items h =
    let es : List OptionValue = option_values_of located in
    let u : usable_held (state_of from located) items ≡ usable_in es =
    ap (λ (l : List Slot). usable_run None (patterns_of l))
    (ap (take (length (slots_in es))) h.slots ∙ take-append_seam (slots_in es) (replicate (max_items - length (slots_in es)) no_slot)) in
    by_cases (ltb (usable_in es) (count is_pattern es))
    (λ t.
    let m : usable_in es < length (dashes_of located) = omega (arith, ltb-true (usable_in es) (count is_pattern es) t, dashes_length located) in
    rw (u, t, padded_at max_patterns 0 (dashes_of located) (usable_in es) 0 m))
    (λ f. rw (u, f, h.named.is, h.stored, h.slots, count_none (same_kind (Name [])) es, count_none (same_kind (Protocol 0)) es)
    (missing_by (length s) (table_of document_limits.room es) (not (any? (same_kind (Name [])) es) || not (any? (same_kind (Protocol 0)) es))))

-- whichever text of n bytes, pattern bytes and options the state holds
pub checked_right : (n : ℕ) (st : State) (items : List Slot) (s bytes : List ℕ) (located : List Located) → length s ≡ n → Holds s located st bytes items
    → reading_by (outcome_in n st items) (table_in s st bytes items) ≡ checked_table document_limits.room s located
checked_right n st items s bytes located e h =
    rw (← e)
    (subst (λ (x : State). Holds s located x bytes items
    → reading_by (outcome_in (length s) x items) (table_in s x bytes items) ≡ checked_table document_limits.room s located) (sym h.is)
    (checked_at s located st.from bytes items) h)
