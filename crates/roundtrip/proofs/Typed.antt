-- A TABLE'S TYPE gives its arrays their lengths, so that what holds of tables of that shape holds of every value of the type: a value's arrays are known
-- by their cells, as many as the type says.
use mathlib.Core.Path.{◌≡◌, sym, ◌∙◌}
use mathlib.Core.Bool.{true, false}
use mathlib.Core.List.{List, [], ◌∷◌}
use mathlib.Core.Logic.{◌↔◌}
use Prim.Native.Nat.{ℕ}
use lib.ListN.{length}
use borrow.Author.Tests.{eq-eqb, eqb-true}
use mir.Val.{Val}
use denote.Laws.{Is}
use denote.Shadow.{shadow}
use denote.Array.{each}
use Rattle.definitions.specs.declared.table.Slot.{Slot}
use Rattle.definitions.specs.declared.table.Table.{Table}
use Rattle.definitions.specs.Limits.{max_addresses, document_limits}
use Rattle.definitions.specs.Lists.{all?}
use Rattle.definitions.specs.WellFormed.{Shaped, Readable, well_formed}
use Rattle.definitions.specs.contracts.table.Slot as slot-type
use Rattle.definitions.specs.contracts.table.Table as table-type
use Rattle.roundtrip.proofs.AllTests.{all_none, all_more, all_each}
use Rattle.roundtrip.proofs.Shape.{whole_slot}
use Rattle.roundtrip.proofs.Canonical.{unreadable_exactly}

-- slots, as an array has them
abbrev Held : List Slot → List Val → Type 0
Held sls us = shadow (each (slot-type.the_row).Denot (slot-type.the_row).own_val sls us)

held_whole : (sls : List Slot) (us : List Val) → Held sls us → all? whole_slot sls ≡ true
held_whole [] us h = all_none whole_slot
held_whole (sl ∷ sls) [] h = absurd h
held_whole (sl ∷ sls) (u ∷ us) h =
    all_more whole_slot sl sls
    (eq-eqb (length sl.addresses) max_addresses h.0.1.1.1.0.1.0.1)
    (held_whole sls us h.1)

-- a value of the type has the type's shape
pub typed_shaped : (t : Table) (vs : List Val) → Is table-type.the_row t vs → Shaped document_limits.room t
typed_shaped t vs is =
    let fields = is.1.1 in
    record {
      named = fields.0.1.0.1;
      roomy = fields.1.1.1.1.0.1.0.1;
      slotted = fields.1.1.1.1.1.1.0.1.0.1;
      addressed = λ sl m. eqb-true (length sl.addresses) max_addresses (all_each whole_slot m (held_whole t.items _ fields.1.1.1.1.1.1.0.1.1));
    }

-- no text reads as a value of the type exactly if the test fails
pub typed_unreadable : (t : Table) (vs : List Val) → Is table-type.the_row t vs → (Readable document_limits.room t → ⊥) ↔ (well_formed t ≡ false)
typed_unreadable t vs is = unreadable_exactly document_limits.room t (typed_shaped t vs is)

-- an answer whose number is 20 exactly if the test fails: it is 20 exactly if no text reads as the value
pub twenty_unreadable : (t : Table) (vs : List Val) → Is table-type.the_row t vs → {n k : ℕ} → n ≡ k → (k ≡ 20) ↔ (well_formed t ≡ false)
    → (n ≡ 20) ↔ (Readable document_limits.room t → ⊥)
twenty_unreadable t vs is number formed =
    let text = typed_unreadable t vs is in
    (λ e. text.1 (formed.0 (sym number ∙ e)), λ none. number ∙ formed.1 (text.0 none))
