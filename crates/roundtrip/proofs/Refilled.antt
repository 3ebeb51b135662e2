-- An array with zeros after what is in use is what its part in use fills: the rest is a list of one element, and as long as it has to be.
use mathlib.Core.Path.{◌≡◌, refl, sym, ap, ap₂, ◌∙◌}
use mathlib.Core.Bool.{Bool, true, ◌&&◌}
use mathlib.Core.List.{List, [], ◌∷◌, ◌++◌}
use Prim.Native.Nat.{ℕ, ◌-◌}
use native.Mathlib.Omega.{arith}
use lib.ListN.{length, length-take, length-drop, take, drop, take-append-drop, replicate}
use borrow.Author.Tests.{eqb-true}
use Rattle.forms.proofs.Bools.{both_right}
use Rattle.forms.proofs.Sound.{never}
use Rattle.definitions.specs.declared.table.Item.{Item}
use Rattle.definitions.specs.declared.table.Item.TheVariants as item
use Rattle.definitions.specs.declared.table.Address.{Address}
use Rattle.definitions.specs.declared.table.Slot.{Slot}
use Rattle.definitions.specs.Limits.{max_addresses}
use Rattle.definitions.specs.Lists.{all?, padded}
use Rattle.definitions.specs.Tables.{no_address, no_slot}
use Rattle.definitions.specs.Items.{kind_of}
use Rattle.definitions.specs.WellFormed.{is_zero, address_fits, address_unused, addresses_fit, is_unused, slot_unused}
use Rattle.roundtrip.proofs.AllTests.{halves, all_head, all_tail, all_drop, all_both}
use Rattle.roundtrip.proofs.Shape.{whole_slot}

module _ {A : Type 0} (f : A → Bool) (x : A) (only : (a : A) → f a ≡ true → a ≡ x) where
  all_same : (l : List A) → all? f l ≡ true → l ≡ replicate (length l) x
  all_same [] t = refl
  all_same (a ∷ l) t = ap₂ (λ b m. b ∷ m) (only a (all_head f a l t)) (all_same l (all_tail f a l t))

  pub refilled : (n k : ℕ) (l : List A) → length l ≡ n → all? f (drop k l) ≡ true → padded n x (take k l) ≡ l
  refilled n k l e t =
      let g : n - length (take k l) ≡ length (drop k l) = omega (arith, length-take k l, length-drop k l, e) in
      ap (λ i. take k l ++ replicate i x) g ∙ ap (λ z. take k l ++ z) (sym (all_same (drop k l) t)) ∙ take-append-drop k l

-- ---- bytes

pub bytes_refilled : (n k : ℕ) (l : List ℕ) → length l ≡ n → all? is_zero (drop k l) ≡ true → padded n 0 (take k l) ≡ l
bytes_refilled = refilled is_zero 0 (λ b t. eqb-true b 0 t)

-- ---- addresses

unused_address : (a : Address) → address_unused a ≡ true → a ≡ no_address
unused_address a t =
    let h = halves t in
    let p = eqb-true a.number 0 h.0 in
    let q = eqb-true a.prefix 0 h.1 in
    λ i. record { number = p i; prefix = q i }

pub addresses_refilled : (k : ℕ) (al : List Address) → length al ≡ max_addresses → addresses_fit k al ≡ true → padded max_addresses no_address (take k al) ≡ al
addresses_refilled k al e t =
    refilled address_unused no_address unused_address max_addresses k al e (both_right (all? address_fits (take k al)) (all? address_unused (drop k al)) t)

-- ---- slots

unused_item : (it : Item) → is_unused (kind_of it) ≡ true → it ≡ item.Unused
unused_item item.Unused t = refl
unused_item (item.Address a) t = never (cc)
unused_item item.SameIp t = never (cc)
unused_item (item.Number a) t = never (cc)
unused_item (item.Ttl a) t = never (cc)
unused_item (item.Field a) t = never (cc)
unused_item (item.Size a) t = never (cc)
unused_item (item.At a) t = never (cc)
unused_item (item.Byte a) t = never (cc)
unused_item (item.Pattern a) t = never (cc)

-- not in use, with all its addresses
abbrev empty_slot : Slot → Bool
empty_slot sl = slot_unused sl && whole_slot sl

empty_slot_lem : (sl : Slot) → empty_slot sl ≡ true → sl ≡ no_slot
unfolding all?
empty_slot_lem sl t =
    let h = halves t in
    let g = halves h.0 in
    let p = unused_item sl.item g.0 in
    let q : sl.addresses ≡ padded max_addresses no_address [] =
    sym (addresses_refilled 0 sl.addresses (eqb-true (length sl.addresses) max_addresses h.1) g.1) in
    λ i. record { item = p i; addresses = q i }

pub slots_refilled : (n k : ℕ) (l : List Slot) → length l ≡ n → all? whole_slot l ≡ true → all? slot_unused (drop k l) ≡ true → padded n no_slot (take k l) ≡ l
slots_refilled n k l e w t = refilled empty_slot no_slot empty_slot_lem n k l e (all_both slot_unused whole_slot (drop k l) t (all_drop whole_slot k l w))
