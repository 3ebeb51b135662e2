-- The table of options has the shape of a table if name, pattern bytes, slots and each test's addresses fit into their arrays: a list in an array with
-- room for it fills the array exactly, and a list that does not fit makes it longer.
use mathlib.Core.Path.{◌≡◌, refl}
use mathlib.Core.Bool.{Bool, true}
use mathlib.Core.List.{List, [], ◌∷◌}
use Prim.Native.Nat.{ℕ, ◌-◌, ◌≤◌}
use lib.ListN.{length, replicate}
use lib.Dec.{eqb}
use borrow.Author.Tests.{eq-eqb, eqb-true, leb-true}
use Rattle.definitions.specs.declared.table.Slot.{Slot}
use Rattle.definitions.specs.declared.table.Table.{Table}
use Rattle.definitions.specs.Limits.{max_name, max_items, max_addresses}
use Rattle.definitions.specs.Lists.{all?, padded}
use Rattle.definitions.specs.OptionValues.{OptionValue, Name, Protocol, Flow, Test, Pattern, Modified}
use Rattle.definitions.specs.Tables.{name_in, no_address, slot_of, no_slot, slots_in, bytes_in, table_of}
use Rattle.definitions.specs.WellFormed.{Shaped}
use Rattle.list_laws.proofs.Padded.{padded_full}
use Rattle.roundtrip.proofs.AllTests.{all_none, all_more, all_head, all_tail, all_append, all_replicate, all_of, all_each}
use Rattle.roundtrip.proofs.Counts.{few_addresses}

-- ---- each slot has its addresses

abbrev pub whole_slot : Slot → Bool
whole_slot sl = eqb (length sl.addresses) max_addresses

slots_whole : (es : List OptionValue) → all? few_addresses es ≡ true → all? whole_slot (slots_in es) ≡ true
unfolding slots_in
slots_whole [] f = all_none whole_slot
slots_whole (Name n ∷ es) f = slots_whole es (all_tail few_addresses (Name n) es f)
slots_whole (Protocol p ∷ es) f = slots_whole es (all_tail few_addresses (Protocol p) es f)
slots_whole (Flow g ∷ es) f = slots_whole es (all_tail few_addresses (Flow g) es f)
slots_whole (Test it al ∷ es) f =
    let h = padded_full max_addresses no_address al (leb-true (length al) max_addresses (all_head few_addresses (Test it al) es f)) in
    all_more whole_slot (slot_of it al) (slots_in es) (eq-eqb (length (padded max_addresses no_address al)) max_addresses h)
    (slots_whole es (all_tail few_addresses (Test it al) es f))
slots_whole (Pattern n b ∷ es) f = all_more whole_slot _ (slots_in es) refl (slots_whole es (all_tail few_addresses (Pattern n b) es f))
slots_whole (Modified m ∷ es) f = slots_whole es (all_tail few_addresses (Modified m) es f)

pub table_shaped : (room : ℕ) (es : List OptionValue) → length (name_in es) ≤ max_name → length (bytes_in es) ≤ room → length (slots_in es) ≤ max_items
    → all? few_addresses es ≡ true → Shaped room (table_of room es)
unfolding table_of
table_shaped room es n b s f =
    record {
      named = padded_full max_name 0 (name_in es) n;
      roomy = padded_full room 0 (bytes_in es) b;
      slotted = padded_full max_items no_slot (slots_in es) s;
      addressed = λ sl m.
          eqb-true (length sl.addresses) max_addresses
          (all_each whole_slot m
          (all_append whole_slot (slots_in es) (replicate (max_items - length (slots_in es)) no_slot) (slots_whole es f)
          (all_replicate whole_slot (max_items - length (slots_in es)) no_slot refl)));
    }

pub slots_shaped : (room : ℕ) (t : Table) → Shaped room t → all? whole_slot t.items ≡ true
slots_shaped room t h = all_of whole_slot t.items (λ sl m. eq-eqb (length sl.addresses) max_addresses (h.addressed sl m))
