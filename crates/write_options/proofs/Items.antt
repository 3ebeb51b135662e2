-- The text of a table's items, each by its kind.
use mathlib.Core.Path.{◌≡◌, refl, sym, ap, ◌∙◌}
use mathlib.Core.List.{List, [], ◌++◌}
use Prim.Native.Nat.{ℕ, suc, ◌+◌, ◌-◌, ◌≤◌, ◌<◌}
use native.Mathlib.Omega.{arith}
use native.Mathlib.Numerals.{add-one}
use lib.ListN.{length, take, drop, get_or, length-drop, drop_of_length-le}
use lib.Seq.{drop-drop, drop-cons}
use Rattle.definitions.specs.declared.table.AddressTest.{AddressTest}
use Rattle.definitions.specs.declared.table.Item.{Item}
use Rattle.definitions.specs.declared.table.Item.TheVariants as item
use Rattle.definitions.specs.declared.table.Pattern.{Pattern}
use Rattle.definitions.specs.declared.table.Slot.{Slot}
use Rattle.definitions.specs.OptionValues.{Test}
use Rattle.definitions.specs.Items.{Kind, unused, addressed, patterned, plain_test, kind_of, after_item}
use Rattle.definitions.specs.Canonical.{pattern_options, item_options, slot_options, test_text, option_text, options_text}
use Rattle.write_bytes.specs.Clipped.{at_most}
use Rattle.write_bytes.proofs.Clipping.{at_most_le, drop_most}
use Rattle.write_patterns.proofs.OptionTexts.{options_append, options_one}
use Rattle.write_options.specs.Parts.{place_after}

module _ (sl : Slot) (b : List ℕ) where
  abbrev item_text : List ℕ
  item_text = options_text (item_options (kind_of sl.item) sl b)

  by_kind : (k : Kind) → kind_of sl.item ≡ k → item_text ≡ options_text (item_options k sl b)
  by_kind k e = ap (λ (k : Kind). options_text (item_options k sl b)) e

  pub unused_text : sl.item ≡ item.Unused → item_text ≡ []
  unfolding options_text
  unused_text e = by_kind unused (ap kind_of e)

  pub address_text_lem : (a : AddressTest) → sl.item ≡ item.Address a → item_text ≡ test_text (item.Address a) (take a.count sl.addresses)
  unfolding option_text
  address_text_lem a e =
      by_kind (addressed a) (ap kind_of e)
      ∙ options_one (Test sl.item (take a.count sl.addresses))
      ∙ ap (λ (it : Item). test_text it (take a.count sl.addresses)) e

  pub plain_text : (it : Item) → kind_of it ≡ plain_test → sl.item ≡ it → item_text ≡ test_text it []
  unfolding option_text
  plain_text it k e = by_kind plain_test (ap kind_of e ∙ k) ∙ options_one (Test sl.item []) ∙ ap (λ (i : Item). test_text i []) e

  pub pattern_text_lem : (p : Pattern) → sl.item ≡ item.Pattern p → item_text ≡ options_text (pattern_options p b)
  pattern_text_lem p e = by_kind (patterned p) (ap kind_of e)

-- one item more
pub items_on : (l : List Slot) (i : ℕ) (d : Slot) (b : List ℕ) → i < length l
    → options_text (slot_options (drop i l) b)
    ≡ options_text (item_options (kind_of (get_or l i d).item) (get_or l i d) b)
    ++ options_text (slot_options (drop (i + 1) l) (after_item (kind_of (get_or l i d).item) b))
unfolding slot_options
items_on l i d b h =
    let k = kind_of (get_or l i d).item in
    rw (drop-cons l i d h, add-one i) (options_append (item_options k (get_or l i d) b) (slot_options (drop (suc i) l) (after_item k b)))

pub items_end : (l : List Slot) (i : ℕ) (b : List ℕ) → length l ≤ i → options_text (slot_options (drop i l) b) ≡ []
unfolding slot_options options_text
items_end l i b h = rw (drop_of_length-le l h)

-- the pattern bytes after an item
pub after_is : (k : Kind) (bytes : List ℕ) (from : ℕ) → from ≤ length bytes
    → (after_item k (drop from bytes) ≡ drop (place_after k from (length bytes)) bytes) × (place_after k from (length bytes) ≤ length bytes)
after_is unused bytes from h = (refl, h)
after_is (addressed a) bytes from h = (refl, h)
after_is (patterned p) bytes from h =
    let e : length (drop from bytes) ≡ length bytes - from = length-drop from bytes in (
      sym (drop_most p.len (drop from bytes))
          ∙ ap (λ (n : ℕ). drop (at_most p.len n) (drop from bytes)) e
          ∙ drop-drop (at_most p.len (length bytes - from)) from bytes,
      omega (arith, h, at_most_le p.len (length bytes - from)),
    )
after_is plain_test bytes from h = (refl, h)
