-- WHAT IS READ HOLDS NO ITEM OF THE OLD KIND, ip_id (`read_no_ip_id`), and no text reads as a table that holds one (`ip_id_unreadable`): the options of a text
-- fit, and the slots after theirs are unused. Document 02, T-09.
use mathlib.Core.Path.{◌≡◌, refl, sym, ap, ◌∙◌}
use mathlib.Core.Bool.{true, false, false≢true}
use mathlib.Core.List.{List, []}
use mathlib.Core.Logic.{⊎_elim}
use Prim.Native.Nat.{ℕ, ◌-◌}
use lib.ListN.{length, replicate}
use Rattle.definitions.specs.declared.answers.Reading.{Reading}
use Rattle.definitions.specs.declared.table.Slot.{Slot}
use Rattle.definitions.specs.declared.table.Table.{Table}
use Rattle.definitions.specs.Limits.{Limits, max_items}
use Rattle.definitions.specs.Lists.{any?}
use Rattle.definitions.specs.Tables.{no_slot, slots_in, table_of}
use Rattle.definitions.specs.Items.{kind_of}
use Rattle.definitions.specs.Reading.{accepted_reading, read}
use Rattle.definitions.specs.Grammar.{Derives}
use Rattle.definitions.specs.WellFormed.{slot_fits, is_unused, Readable}
use Rattle.definitions.specs.IpId.{holds_ip_id}
use Rattle.laws.proofs.OldKind.{unused_not, fitting_not, none_among, none_either}
use Rattle.laws.proofs.Refusing.{EmptyOrAccepted, refused_empty}
use Rattle.syntax.proofs.Exact.{syntax_exactly, read_exactly}
use Rattle.roundtrip.proofs.AllTests.{all_replicate}
use Rattle.roundtrip.proofs.Counts.{few_addresses_lem}
use Rattle.roundtrip.proofs.Formed.{options_fit}
use Rattle.roundtrip.proofs.Read.{told_either}
use Rattle.roundtrip.proofs.Slots.{slots_fit_lem}

-- of a text of the grammar, whatever its pattern bytes
derived_none : (room : ℕ) (s : List ℕ) (t : Table) → Derives room s t → holds_ip_id t ≡ false
unfolding holds_ip_id table_of
derived_none room s t d =
    let es = d.values in
    let some = none_among slot_fits fitting_not (slots_in es) (slots_fit_lem es (options_fit d.made) (few_addresses_lem es d.occurrences)) in
    let rest = replicate (max_items - length (slots_in es)) no_slot in
    rw d.table (none_either (slots_in es) rest some (none_among (λ sl. is_unused (kind_of sl.item)) (λ sl. unused_not sl.item) rest
    (all_replicate (λ (sl : Slot). is_unused (kind_of sl.item)) (max_items - length (slots_in es)) no_slot refl)))

empty_none : (room : ℕ) → holds_ip_id (table_of room []) ≡ false
unfolding holds_ip_id table_of slots_in any?
empty_none room = refl

known_none : (room : ℕ) (r : Reading) → EmptyOrAccepted room r → (r ≡ accepted_reading r.table → holds_ip_id r.table ≡ false) → holds_ip_id r.table ≡ false
known_none room r h k = ⊎_elim k (λ e. ap holds_ip_id e ∙ empty_none room) (told_either room r h)

-- WHAT IS READ HOLDS NO ITEM OF THE OLD KIND, of any text and for any limits
pub read_no_ip_id : (lim : Limits) (s : List ℕ) → holds_ip_id (read lim s).table ≡ false
read_no_ip_id lim s =
    known_none lim.room (read lim s) (refused_empty lim s)
    (λ e. derived_none lim.room s (read lim s).table ((read_exactly lim s (read lim s).table).0 e).0)

-- NO TEXT READS AS A TABLE THAT HOLDS ONE
pub ip_id_unreadable : (room : ℕ) (t : Table) → holds_ip_id t ≡ true → Readable room t → ⊥
ip_id_unreadable room t h r = false≢true (sym (derived_none room r.0 t ((syntax_exactly room r.0 t).0 r.1)) ∙ h)
