-- WHAT IS READ is well formed, and within the room it has the shape of a table: an accepted text is one of the grammar, whose options make such a table.
-- A refused one has the empty table.
use Rattle.std.specs.Prelude.{Result, Ok, Err}
use mathlib.Core.Path.{◌≡◌, refl, sym, ap, subst, ◌∙◌}
use mathlib.Core.Bool.{true}
use mathlib.Core.List.{List, []}
use mathlib.Core.Logic.{◌⊎◌, inl, inr, ⊎_elim}
use Prim.Native.Nat.{ℕ, ◌≤◌}
use native.Mathlib.Omega.{arith}
use lib.ListN.{length, length-append}
use Rattle.forms.proofs.Sound.{never}
use Rattle.definitions.specs.declared.answers.Reading.{Reading}
use Rattle.definitions.specs.declared.table.Table.{Table}
use Rattle.definitions.specs.declared.answers.TextRefusal.{TextRefusal}
use Rattle.definitions.specs.Limits.{Limits}
use Rattle.definitions.specs.Lists.{all?}
use Rattle.definitions.specs.Tables.{name_in, slots_in, bytes_in, table_of}
use Rattle.definitions.specs.Reading.{accepted_reading, read_unbounded, read}
use Rattle.definitions.specs.Options.{opening}
use Rattle.definitions.specs.Grammar.{Derives}
use Rattle.definitions.specs.WellFormed.{Shaped, well_formed}
use Rattle.laws.proofs.Refusing.{EmptyOrAccepted, unbounded_empty}
use Rattle.syntax.proofs.UsablePatterns.{options_tests}
use Rattle.syntax.proofs.Exact.{syntax_exactly, read_exactly}
use Rattle.roundtrip.proofs.Counts.{few_addresses_lem}
use Rattle.roundtrip.proofs.Formed.{options_fit, options_bytes, Entries, options_formed, options_named, options_slotted}
use Rattle.roundtrip.proofs.Shape.{table_shaped}
use Rattle.list_laws.proofs.Padded.{padded_holds}

-- ---- texts of the grammar

module _ (room : ℕ) (s : List ℕ) (t : Table) (d : Derives room s t) where
  options_known : Entries d.values
  options_known = record {
    fit = options_fit d.made;
    only = options_tests d.made;
    occurrences = d.occurrences;
    usable = d.usable;
    complete =
        d.complete;
  }

  pub derived_formed : Shaped room t → well_formed t ≡ true
  unfolding table_of
  derived_formed h =
      let e = d.table in
      let r : length (table_of room d.values).bytes ≡ room = ap (λ (u : Table). length u.bytes) (sym e) ∙ h.roomy in
      rw e (options_formed room d.values options_known (padded_holds room 0 (bytes_in d.values) r))

  pub derived_shaped : length s ≤ room → Shaped room t
  derived_shaped h =
      let l = ap length d.framed ∙ length-append opening d.body in
      rw d.table (table_shaped room d.values (options_named room d.values options_known) (omega (arith, h, l, options_bytes d.made))
      (options_slotted room d.values options_known) (few_addresses_lem d.values d.occurrences))

-- ---- reading

pub read_formed : (room : ℕ) (s : List ℕ) (t : Table) → Shaped room t → read_unbounded room s ≡ accepted_reading t → well_formed t ≡ true
read_formed room s t h e = derived_formed room s t ((syntax_exactly room s t).0 e) h

empty_shaped : (room : ℕ) → Shaped room (table_of room [])
unfolding name_in slots_in bytes_in all?
empty_shaped room = table_shaped room [] (omega arith) (omega arith) (omega arith) refl

-- accepted, or with the table of a refusal
abbrev pub Either : ℕ → Reading → Type 0
Either room r = (r ≡ accepted_reading r.table) ⊎ (r.table ≡ table_of room [])

-- each answer of the reader is one of these, since a refused one has the empty table
pub told_either : (room : ℕ) (r : Reading) → EmptyOrAccepted room r → Either room r
told_either room r h = go r.outcome refl
  where
    go : (o : Result Unit TextRefusal) → r.outcome ≡ o → Either room r
    go (Ok tt) e = inl (ap (λ (o : Result Unit TextRefusal). record { outcome = o; table = r.table }) e)
    go (Err e') e = inr (h (λ a. never (cc)))

pub shaped_read : (room : ℕ) (s : List ℕ) → length s ≤ room → Shaped room (read_unbounded room s).table
shaped_read room s h =
    ⊎_elim
    (λ e. derived_shaped room s (read_unbounded room s).table ((syntax_exactly room s (read_unbounded room s).table).0 e) h)
    (λ e. subst (Shaped room) (sym e) (empty_shaped room))
    (told_either room (read_unbounded room s) (unbounded_empty room s))

pub read_shaped : (lim : Limits) (s : List ℕ) (t : Table) → lim.text ≤ lim.room → read lim s ≡ accepted_reading t → Shaped lim.room t
read_shaped lim s t h e = let d = (read_exactly lim s t).0 e in derived_shaped lim.room s t d.0 (omega (arith, h, d.1))

pub read_well : (lim : Limits) (s : List ℕ) (t : Table) → lim.text ≤ lim.room → read lim s ≡ accepted_reading t → well_formed t ≡ true
read_well lim s t h e = derived_formed lim.room s t ((read_exactly lim s t).0 e).0 (read_shaped lim s t h e)
