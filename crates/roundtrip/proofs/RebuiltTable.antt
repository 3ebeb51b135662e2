-- The options of a well-formed table make the table again: slot by slot, each with the pattern bytes from its own on, then name, protocol, flow and what
-- is after them in the arrays.
use mathlib.Core.Path.{◌≡◌, refl, sym, ap, ap₂, ◌∙◌}
use mathlib.Core.Bool.{true, ◌&&◌}
use mathlib.Core.List.{List, [], ◌∷◌, ◌++◌}
use Prim.Native.Nat.{ℕ, ◌+◌, ◌-◌, ◌≤◌}
use native.Mathlib.Omega.{arith}
use native.Mathlib.Nat.{zero-add}
use lib.ListN.{length, length-take, length-drop, take}
use lib.Seq.{take-add}
use lib.Dec.{leb}
use borrow.Author.Tests.{eqb-true, leb-true}
use Rattle.forms.proofs.Bools.{both_right}
use Rattle.forms.proofs.Sound.{never}
use Rattle.definitions.specs.declared.table.Flow as flows
use Rattle.definitions.specs.declared.table.Flow.TheVariants as flow
use Rattle.definitions.specs.declared.table.Pattern as patterns
use Rattle.definitions.specs.declared.table.Item.{Item}
use Rattle.definitions.specs.declared.table.Item.TheVariants as item
use Rattle.definitions.specs.declared.table.Address.{Address}
use Rattle.definitions.specs.declared.table.Slot.{Slot}
use Rattle.definitions.specs.declared.table.Table.{Table}
use Rattle.definitions.specs.Limits.{max_name, max_items, max_addresses}
use Rattle.definitions.specs.Lists.{all?, padded}
use Rattle.definitions.specs.OptionValues.{OptionValue}
use Rattle.definitions.specs.Tables.{name_in, protocol_in, flow_in, bare, modified, slot_of, no_slot, slots_in, bytes_in, table_of}
use Rattle.definitions.specs.Items.{Kind, unused, addressed, patterned, plain_test, kind_of, slots_of, pattern_first, patterns_of, after_item}
use Rattle.definitions.specs.Canonical.{flow_option, item_options, slot_options, canonical_options}
use Rattle.definitions.specs.WellFormed.{Shaped, addresses_fit, item_fits, slot_fits, bytes_of, well_formed}
use Rattle.roundtrip.proofs.AllTests.{all_head, all_tail, all_take}
use Rattle.roundtrip.proofs.Parts.{Formed, formed}
use Rattle.roundtrip.proofs.Patterned.{modifier_options, pattern_set, slots_past, bytes_past, flow_past}
use Rattle.roundtrip.proofs.Refilled.{bytes_refilled, addresses_refilled, slots_refilled}
use Rattle.roundtrip.proofs.Shape.{whole_slot, slots_shaped}

-- ---- slots

-- no pattern's modifiers are found after the options before the next pattern
unmodified : (sls : List Slot) (b : List ℕ) (p : patterns.Pattern) → modified (slot_options sls b) p ≡ p
unfolding slot_options modified
unmodified [] b p = refl
unmodified (sl ∷ sls) b p = go (kind_of sl.item) (λ c. unmodified sls c p)
  where
    go : (k : Kind) → ((c : List ℕ) → modified (slot_options sls c) p ≡ p) → modified (item_options k sl b ++ slot_options sls (after_item k b)) p ≡ p
    go unused h = h b
    go (addressed a) h = h b
    go (patterned q) h = refl
    go plain_test h = h b

-- the bytes of an item, of those from its own on
abbrev pub kind_length : Kind → ℕ
kind_length unused = 0
kind_length (addressed a) = 0
kind_length (patterned p) = p.len
kind_length plain_test = 0

lengths_first : (k : Kind) (ps : List patterns.Pattern) → bytes_of (pattern_first k ps) ≡ kind_length k + bytes_of ps
unfolding bytes_of
lengths_first unused ps = omega arith
lengths_first (addressed a) ps = omega arith
lengths_first (patterned p) ps = refl
lengths_first plain_test ps = omega arith

after_length : (k : Kind) (b : List ℕ) → length (after_item k b) ≡ length b - kind_length k
after_length unused b = omega arith
after_length (addressed a) b = omega arith
after_length (patterned p) b = length-drop p.len b
after_length plain_test b = omega arith

-- the slot of an item's options
module _ (al : List Address) (b : List ℕ) (rest : List OptionValue) (whole : length al ≡ max_addresses) (alone : (p : patterns.Pattern)
    → modified rest p ≡ p) where
  plain_back : (it : Item) → (item_fits it && addresses_fit 0 al) ≡ true → slot_of it [] ∷ slots_in rest ≡ record { item = it; addresses = al } ∷ slots_in rest
  plain_back it t = ap (λ l. record { item = it; addresses = l } ∷ slots_in rest)
      (addresses_refilled 0 al whole (both_right (item_fits it) (addresses_fit 0 al) t))

  pattern_back : (p : patterns.Pattern) → p.len ≤ length b → modified (modifier_options p ++ rest) (bare p.negated (length (take p.len b))) ≡ p
  pattern_back p h =
      let e : length (take p.len b) ≡ p.len = omega (arith, length-take p.len b, h) in
      ap (λ n. modified (modifier_options p ++ rest) (bare p.negated n)) e ∙ pattern_set p rest ∙ alone p

  item_back : (it : Item) → kind_length (kind_of it) ≤ length b → slot_fits (record { item = it; addresses = al }) ≡ true
      → slots_in (item_options (kind_of it) (record { item = it; addresses = al }) b ++ rest) ≡ record { item = it; addresses = al } ∷ slots_in rest
  unfolding slots_in item_fits
  item_back item.Unused h t = never (cc)
  item_back (item.Address a) h t =
      ap (λ l. record { item = item.Address a; addresses = l } ∷ slots_in rest)
      (addresses_refilled a.count al whole (both_right (item_fits (item.Address a)) (addresses_fit a.count al) t))
  item_back item.SameIp h t = plain_back item.SameIp t
  item_back (item.Number a) h t = plain_back (item.Number a) t
  item_back (item.Ttl a) h t = plain_back (item.Ttl a) t
  item_back (item.Field a) h t = plain_back (item.Field a) t
  item_back (item.Size a) h t = plain_back (item.Size a) t
  item_back (item.At a) h t = plain_back (item.At a) t
  item_back (item.Byte a) h t = plain_back (item.Byte a) t
  item_back (item.Pattern p) h t =
      ap₂ (λ q l. slot_of (item.Pattern q) [] ∷ l) (pattern_back p h) (slots_past p rest) ∙ plain_back (item.Pattern p) t

-- the pattern bytes from the first slot's on are enough for all
abbrev pub Enough : List Slot → List ℕ → Type 0
Enough sls b = bytes_of (patterns_of sls) ≤ length b

pub enough : (sl : Slot) (sls : List Slot) (b : List ℕ) → Enough (sl ∷ sls) b
    → (kind_length (kind_of sl.item) ≤ length b) × Enough sls (after_item (kind_of sl.item) b)
unfolding patterns_of
enough sl sls b h =
    let e = lengths_first (kind_of sl.item) (patterns_of sls) in
    (omega (arith, e, h), omega (arith, e, h, after_length (kind_of sl.item) b))

slots_back : (sls : List Slot) (b : List ℕ) → all? slot_fits sls ≡ true → all? whole_slot sls ≡ true → Enough sls b → slots_in (slot_options sls b) ≡ sls
unfolding slot_options
slots_back [] b f w h = unfold slots_in in refl
slots_back (sl ∷ sls) b f w h =
    let k = kind_of sl.item in
    let g = enough sl sls b h in
    item_back sl.addresses b (slot_options sls (after_item k b)) (eqb-true (length sl.addresses) max_addresses (all_head whole_slot sl sls w))
    (unmodified sls (after_item k b)) sl.item g.0 (all_head slot_fits sl sls f)
    ∙ ap (λ l. sl ∷ l) (slots_back sls (after_item k b) (all_tail slot_fits sl sls f) (all_tail whole_slot sl sls w) g.1)

-- ---- bytes and flow

item_bytes : (k : Kind) (sl : Slot) (b : List ℕ) (rest : List OptionValue) (n : ℕ) → bytes_in rest ≡ take n (after_item k b)
    → bytes_in (item_options k sl b ++ rest) ≡ take (kind_length k + n) b
unfolding bytes_in
item_bytes unused sl b rest n e = rw zero-add e
item_bytes (addressed a) sl b rest n e = rw zero-add e
item_bytes (patterned p) sl b rest n e = ap (λ l. take p.len b ++ l) (bytes_past p rest ∙ e) ∙ sym (take-add p.len n b)
item_bytes plain_test sl b rest n e = rw zero-add e

bytes_back : (sls : List Slot) (b : List ℕ) → bytes_in (slot_options sls b) ≡ take (bytes_of (patterns_of sls)) b
unfolding slot_options patterns_of
bytes_back [] b = unfold bytes_in bytes_of in refl
bytes_back (sl ∷ sls) b =
    let k = kind_of sl.item in
    item_bytes k sl b (slot_options sls (after_item k b)) (bytes_of (patterns_of sls)) (bytes_back sls (after_item k b))
    ∙ ap (λ n. take n b) (sym (lengths_first k (patterns_of sls)))

item_flow : (k : Kind) (sl : Slot) (b : List ℕ) (rest : List OptionValue) → flow_in (item_options k sl b ++ rest) ≡ flow_in rest
unfolding flow_in
item_flow unused sl b rest = refl
item_flow (addressed a) sl b rest = refl
item_flow (patterned p) sl b rest = flow_past p rest
item_flow plain_test sl b rest = refl

no_flow : (sls : List Slot) (b : List ℕ) → flow_in (slot_options sls b) ≡ flow.Any
unfolding slot_options
no_flow [] b = unfold flow_in in refl
no_flow (sl ∷ sls) b = let k = kind_of sl.item in item_flow k sl b (slot_options sls (after_item k b)) ∙ no_flow sls (after_item k b)

-- ---- the table

flow_back : (f : flows.Flow) (es : List OptionValue) → flow_in es ≡ flow.Any → flow_in (flow_option f ++ es) ≡ f
unfolding flow_in
flow_back flow.Any es e = e
flow_back flow.FromClient es e = refl
flow_back flow.FromServer es e = refl

flow_past_slots : (f : flows.Flow) (es : List OptionValue) → slots_in (flow_option f ++ es) ≡ slots_in es
unfolding slots_in
flow_past_slots flow.Any es = refl
flow_past_slots flow.FromClient es = refl
flow_past_slots flow.FromServer es = refl

flow_past_bytes : (f : flows.Flow) (es : List OptionValue) → bytes_in (flow_option f ++ es) ≡ bytes_in es
unfolding bytes_in
flow_past_bytes flow.Any es = refl
flow_past_bytes flow.FromClient es = refl
flow_past_bytes flow.FromServer es = refl

module _ (room : ℕ) (t : Table) (h : Shaped room t) (w : well_formed t ≡ true) where
  parts : Formed t
  parts = formed t w

  pub canonical_slots : slots_in (canonical_options t) ≡ slots_of t
  unfolding canonical_options
  canonical_slots =
      let f = parts in
      let e = f.used in
      unfold slots_in in
      flow_past_slots t.flow (slot_options (slots_of t) t.bytes)
      ∙ slots_back (slots_of t) t.bytes f.slots (all_take whole_slot t.count t.items (slots_shaped room t h)) (omega (arith, e, f.used_most))

  canonical_bytes : bytes_in (canonical_options t) ≡ take t.used t.bytes
  unfolding canonical_options
  canonical_bytes =
      unfold bytes_in in
      flow_past_bytes t.flow (slot_options (slots_of t) t.bytes) ∙ bytes_back (slots_of t) t.bytes ∙ ap (λ n. take n t.bytes) (sym parts.used)

  pub canonical_table : table_of room (canonical_options t) ≡ t
  unfolding table_of name_in protocol_in flow_in canonical_options
  canonical_table =
      let f = parts in
      let l = leb-true t.len max_name (both_right (leb 1 t.len) (leb t.len max_name) f.name_length_lem) in
      let n : padded max_name 0 (take t.len t.name) ≡ t.name = bytes_refilled max_name t.len t.name h.named f.name_rest in
      let nl : length (take t.len t.name) ≡ t.len = omega (arith, l, length-take t.len t.name, h.named) in
      let g = flow_back t.flow (slot_options (slots_of t) t.bytes) (no_flow (slots_of t) t.bytes) in
      let b : padded room 0 (bytes_in (canonical_options t)) ≡ t.bytes =
      ap (padded room 0) canonical_bytes ∙ bytes_refilled room t.used t.bytes h.roomy f.bytes_rest in
      let bl : length (bytes_in (canonical_options t)) ≡ t.used = ap length canonical_bytes ∙ omega (arith, f.used_most, length-take t.used t.bytes) in
      let s : padded max_items no_slot (slots_in (canonical_options t)) ≡ t.items =
      ap (padded max_items no_slot) canonical_slots ∙ slots_refilled max_items t.count t.items h.slotted (slots_shaped room t h) f.slots_rest in
      let sl : length (slots_in (canonical_options t)) ≡ t.count =
      ap length canonical_slots ∙ omega (arith, f.count, length-take t.count t.items, h.slotted) in
      λ i. record { name = n i; len = nl i; protocol = t.protocol; flow = g i; bytes = b i; used = bl i; items = s i; count = sl i }
