-- The items beside the state, after one option more: it leaves them as they are, puts one after them, or changes the last pattern's.
use mathlib.Core.Path.{◌≡◌, sym, ap, ◌∙◌}
use mathlib.Core.Bool.{true}
use mathlib.Core.List.{List, [], ◌∷◌, ◌++◌}
use Prim.Native.Nat.{◌<◌}
use lib.ListN.{length, get_or, set}
use Rattle.definitions.specs.declared.table.Pattern as patterns
use Rattle.definitions.specs.declared.table.Item.TheVariants as item
use Rattle.definitions.specs.declared.table.Slot.{Slot}
use Rattle.definitions.specs.Limits.{max_items}
use Rattle.definitions.specs.Lists.{any?, padded}
use Rattle.definitions.specs.OptionValues.{Modifier, OptionValue, Modified}
use Rattle.definitions.specs.Tables.{slots_in, slot_of, no_slot, modified, with}
use Rattle.definitions.specs.Occurrences.{is_pattern}
use Rattle.read_state.specs.State.{last_place}
use Rattle.read_insert_modifiers.specs.Modifying.{slot_with, pattern_of}
use Rattle.list_laws.proofs.Padded.{padded_one, padded_set, padded_at}
use Rattle.read_insert.proofs.LastPattern.{LastIs, last_is}
use Rattle.read_insert.proofs.Agreement.{slots_same, slots_new}

abbrev pub items_of : List OptionValue → List Slot
items_of es = padded max_items no_slot (slots_in es)

module _ (es : List OptionValue) (items : List Slot) (is : items ≡ items_of es) where
  pub items_same : (e : OptionValue) → ((p : patterns.Pattern) → modified (e ∷ []) p ≡ p) → slots_in (e ∷ []) ≡ [] → items ≡ items_of (es ++ (e ∷ []))
  items_same e h s = is ∙ ap (padded max_items no_slot) (sym (slots_same es e h s))

  pub items_new : (e : OptionValue) (sl : Slot) → length (slots_in es) < max_items → ((p : patterns.Pattern) → modified (e ∷ []) p ≡ p)
      → slots_in (e ∷ []) ≡ sl ∷ []
      → set items (length (slots_in es)) sl ≡ items_of (es ++ (e ∷ []))
  items_new e sl few h s =
      ap (λ (l : List Slot). set l (length (slots_in es)) sl) is
      ∙ sym (ap (padded max_items no_slot) (slots_new es e sl h s) ∙ padded_one max_items no_slot (slots_in es) sl few)

  pub items_changed : (m : Modifier) (d last : Slot) → any? is_pattern es ≡ true → last ≡ get_or items (last_place es) d
      → set items (last_place es) (slot_with last (with m (pattern_of last.item))) ≡ items_of (es ++ (Modified m ∷ []))
  unfolding pattern_of
  items_changed m d last h e =
      let p : patterns.Pattern = (last_is es h).0 in
      let k : LastIs es p = (last_is es h).1 in
      let at_last : last ≡ slot_of (item.Pattern p) [] =
      e ∙ ap (λ (l : List Slot). get_or l (last_place es) d) is ∙ padded_at max_items no_slot (slots_in es) (last_place es) d k.within ∙ k.slot d in
      let changed : Slot → Slot = λ sl. slot_with sl (with m (pattern_of sl.item)) in
      ap (λ (l : List Slot). set l (last_place es) (changed last)) is
      ∙ ap (λ (sl : Slot). set (items_of es) (last_place es) (changed sl)) at_last
      ∙ sym (ap (padded max_items no_slot) (k.changed m) ∙ padded_set max_items no_slot (slots_in es) (last_place es) _ k.within)
