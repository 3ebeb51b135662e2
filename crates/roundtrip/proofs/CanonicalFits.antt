-- The options of a well-formed table's canonical text fit, and their texts say them: what the test of the table asks of each slot, name and protocol is what
-- each option needs, and a usable pattern has no reverse without a reference.
use Rattle.std.specs.Prelude.{Option, Some, None}
use mathlib.Core.Path.{◌≡◌, refl, sym, ap, subst, ◌∙◌}
use mathlib.Core.Bool.{Bool, true, false, not, ◌&&◌, ◌||◌}
use mathlib.Core.List.{List, [], ◌∷◌, ◌++◌}
use Prim.Native.Nat.{ℕ, suc, ◌+◌, ◌≤◌}
use native.Mathlib.Omega.{arith}
use lib.ListN.{length, length-take, take, drop, take-append-drop}
use lib.Dec.{ltb, leb}
use lib.IntN.{pos}
use lib.Signed.{le_z}
use borrow.Author.Tests.{le-leb, leb-true, eq-eqb, eqb-true, ltb-true}
use Rattle.forms.specs.Bytes.{between}
use Rattle.forms.proofs.Bools.{by_cases, both_left, both_right}
use Rattle.definitions.specs.declared.table.Flow as flows
use Rattle.definitions.specs.declared.table.Flow.TheVariants as flow
use Rattle.definitions.specs.declared.table.Context as contexts
use Rattle.definitions.specs.declared.table.AddressTest.{AddressTest}
use Rattle.definitions.specs.declared.table.Reference.TheVariants as reference
use Rattle.definitions.specs.declared.table.Pattern as patterns
use Rattle.definitions.specs.declared.table.Item.{Item}
use Rattle.definitions.specs.declared.table.Item.TheVariants as item
use Rattle.definitions.specs.declared.table.Address.{Address}
use Rattle.definitions.specs.declared.table.Slot.{Slot}
use Rattle.definitions.specs.declared.table.Table.{Table}
use Rattle.definitions.specs.declared.packets.Match.{Match}
use Rattle.definitions.specs.declared.table.DistanceValue.{DistanceValue}
use Rattle.definitions.specs.Limits.{max_name, max_byte, max_addresses}
use Rattle.definitions.specs.Lists.{all?}
use Rattle.definitions.specs.OptionValues.{OptionValue, Name, Protocol, Flow, Test, Pattern}
use Rattle.definitions.specs.Forms.{test}
use Rattle.definitions.specs.Items.{Kind, unused, addressed, patterned, plain_test, kind_of, slots_of, pattern_first, patterns_of, after_item}
use Rattle.definitions.specs.Starts.{start_at}
use Rattle.definitions.specs.References.{last_after, same_reference, reference_usable, reverse_usable, distance_usable, within_usable, references_alike}
use Rattle.definitions.specs.References.{usable, usable_run}
use Rattle.definitions.specs.Canonical.{flow_option, item_options, slot_options, canonical_options}
use Rattle.definitions.specs.WellFormed.{Shaped, is_zero, address_fits, address_unused, distance_fits, within_fits, item_fits, addresses_fit, slot_fits, well_formed}
use Rattle.roundtrip.proofs.AllTests.{both, halves, all_none, all_more, all_head, all_tail, all_append, all_take, all_drop, all_so}
use Rattle.roundtrip.proofs.RebuiltTable.{kind_length, Enough, enough}
use Rattle.roundtrip.proofs.Counts.{few_addresses}
use Rattle.roundtrip.proofs.Fits.{is_byte, option_fits, offset_writable, option_writable}
use Rattle.roundtrip.proofs.Parts.{formed}
use Rattle.roundtrip.proofs.Patterned.{modifier_options, modifiers_all}
use Rattle.roundtrip.proofs.Shape.{whole_slot, slots_shaped}

-- an option that fits, has few addresses, and is said by its text
abbrev pub good : OptionValue → Bool
good e = option_fits e && (few_addresses e && option_writable e)

-- ---- usable patterns

abbrev distance_writable : Option DistanceValue → Bool
distance_writable None = true
distance_writable (Some d) = offset_writable d

abbrev pattern_writable : patterns.Pattern → Bool
pattern_writable p = distance_writable p.distance

first_of_two : (a b c : Bool) → (a || (b && c)) ≡ true → (a || b) ≡ true
first_of_two true b c t = refl
first_of_two false b c t = both_left b c t

distance_writable_lem : (last : Option Match) (c : contexts.Context) (d : Option DistanceValue) → distance_usable last c d ≡ true → distance_writable d ≡ true
distance_writable_lem last c None t = refl
distance_writable_lem last c (Some d) t =
    first_of_two (not d.reverse) (not (same_reference d.reference reference.Match)) (le_z (pos 0) d.offset)
    (both_right (reference_usable last c d.reference) (reverse_usable d) t)

usable_one : (last : Option Match) (p : patterns.Pattern) → usable last p ≡ true → pattern_writable p ≡ true
unfolding usable
usable_one last p t =
    distance_writable_lem last p.context p.distance
    (both_left (distance_usable last p.context p.distance) (within_usable last p.context p.within && references_alike p.distance p.within) t)

usable_writable : (last : Option Match) (ps : List patterns.Pattern) → usable_run last ps ≡ length ps → all? pattern_writable ps ≡ true
unfolding usable_run
usable_writable last [] e = all_none pattern_writable
usable_writable last (p ∷ ps) e =
    by_cases (usable last p)
    (λ t.
    let q : 1 + usable_run (last_after last p (start_at 0)) ps ≡ suc (length ps) = rw t at e in
    all_more pattern_writable p ps (usable_one last p t) (usable_writable (last_after last p (start_at 0)) ps (omega (arith, q))))
    (λ t. let q : 0 ≡ suc (length ps) = rw t at e in absurd (omega (arith, q)))

abbrev kind_writable : Kind → Bool
kind_writable unused = true
kind_writable (addressed a) = true
kind_writable (patterned p) = pattern_writable p
kind_writable plain_test = true

writable_first : (k : Kind) (ps : List patterns.Pattern) → all? pattern_writable (pattern_first k ps) ≡ true
    → (kind_writable k ≡ true) × (all? pattern_writable ps ≡ true)
writable_first unused ps t = (refl, t)
writable_first (addressed a) ps t = (refl, t)
writable_first (patterned p) ps t = (all_head pattern_writable p ps t, all_tail pattern_writable p ps t)
writable_first plain_test ps t = (refl, t)

-- ---- slots

one_good : (e : OptionValue) → good e ≡ true → all? good (e ∷ []) ≡ true
one_good e t = all_more good e [] t (all_none good)

module _ (al : List Address) (b : List ℕ) (whole : length al ≡ max_addresses) (bytes : all? is_byte b ≡ true) where
  address_good : (a : AddressTest) → slot_fits (record { item = item.Address a; addresses = al }) ≡ true
      → good (Test (item.Address a) (take a.count al)) ≡ true
  unfolding item_fits
  address_good a t =
      let h : (between 1 max_addresses a.count ≡ true) × (addresses_fit a.count al ≡ true) = halves t in
      let g : (leb 1 a.count ≡ true) × (leb a.count max_addresses ≡ true) = halves h.0 in
      let n = leb-true a.count max_addresses g.1 in
      let e : length (take a.count al) ≡ a.count = omega (arith, n, whole, length-take a.count al) in
      rw e (both (both (eq-eqb a.count a.count refl)
      (both g.0 (both_left (all? address_fits (take a.count al)) (all? address_unused (drop a.count al)) h.1))) (both g.1 refl))

  pattern_good : (p : patterns.Pattern) → p.len ≤ length b → pattern_writable p ≡ true → slot_fits (record { item = item.Pattern p; addresses = al }) ≡ true
      → all? good (Pattern p.negated (take p.len b) ∷ modifier_options p) ≡ true
  unfolding item_fits
  pattern_good p h u t =
      let f : (item_fits (item.Pattern p) ≡ true) × (addresses_fit 0 al ≡ true) = halves t in
      let g : (ltb 0 p.len ≡ true) × ((distance_fits p.distance && within_fits p.within) ≡ true) = halves f.0 in
      let r : (distance_fits p.distance ≡ true) × (within_fits p.within ≡ true) = halves g.1 in
      let n = ltb-true 0 p.len g.0 in
      let e : length (take p.len b) ≡ p.len = omega (arith, h, length-take p.len b) in
      all_more good (Pattern p.negated (take p.len b)) (modifier_options p)
      (both (both (le-leb 1 (length (take p.len b)) (omega (arith, n, e))) (all_take is_byte p.len b bytes)) refl)
      (modifiers_all good p refl refl
      (λ s d. both (ap distance_fits (sym d) ∙ r.0) (both refl (ap distance_writable (sym d) ∙ u)))
      (λ w d. both (ap within_fits (sym d) ∙ r.1) refl))

  plain_good : (it : Item) → (item_fits it && addresses_fit 0 al) ≡ true → (item_fits it && true) ≡ true
  plain_good it t = both (both_left (item_fits it) (addresses_fit 0 al) t) refl

  item_good : (it : Item) → kind_length (kind_of it) ≤ length b → kind_writable (kind_of it) ≡ true → slot_fits (record { item = it; addresses = al }) ≡ true
      → all? good (item_options (kind_of it) (record { item = it; addresses = al }) b) ≡ true
  item_good item.Unused h u t = all_none good
  item_good (item.Address a) h u t = one_good (Test (item.Address a) (take a.count al)) (address_good a t)
  item_good item.SameIp h u t = one_good (test item.SameIp) (both (plain_good item.SameIp t) refl)
  item_good (item.Number a) h u t = one_good (test (item.Number a)) (both (plain_good (item.Number a) t) refl)
  item_good (item.Ttl a) h u t = one_good (test (item.Ttl a)) (both (plain_good (item.Ttl a) t) refl)
  item_good (item.Field a) h u t = one_good (test (item.Field a)) (both (plain_good (item.Field a) t) refl)
  item_good (item.Size a) h u t = one_good (test (item.Size a)) (both (plain_good (item.Size a) t) refl)
  item_good (item.At a) h u t = one_good (test (item.At a)) (both (plain_good (item.At a) t) refl)
  item_good (item.Byte a) h u t = one_good (test (item.Byte a)) (both (plain_good (item.Byte a) t) refl)
  item_good (item.Pattern p) h u t = pattern_good p h u t

after_bytes : (k : Kind) (b : List ℕ) → all? is_byte b ≡ true → all? is_byte (after_item k b) ≡ true
after_bytes unused b t = t
after_bytes (addressed a) b t = t
after_bytes (patterned p) b t = all_drop is_byte p.len b t
after_bytes plain_test b t = t

slots_good : (sls : List Slot) (b : List ℕ) → all? slot_fits sls ≡ true → all? whole_slot sls ≡ true → all? is_byte b ≡ true
    → all? pattern_writable (patterns_of sls) ≡ true → Enough sls b → all? good (slot_options sls b) ≡ true
unfolding slot_options patterns_of
slots_good [] b f w t u h = all_none good
slots_good (sl ∷ sls) b f w t u h =
    let k = kind_of sl.item in
    let g = enough sl sls b h in
    let q = writable_first k (patterns_of sls) u in
    all_append good (item_options k sl b) (slot_options sls (after_item k b))
    (item_good sl.addresses b (eqb-true (length sl.addresses) max_addresses (all_head whole_slot sl sls w)) t sl.item g.0 q.0
    (all_head slot_fits sl sls f))
    (slots_good sls (after_item k b) (all_tail slot_fits sl sls f) (all_tail whole_slot sl sls w) (after_bytes k b t) q.1 g.1)

-- ---- the table

flow_good : (f : flows.Flow) → all? good (flow_option f) ≡ true
flow_good flow.Any = all_none good
flow_good flow.FromClient = one_good (Flow flow.FromClient) refl
flow_good flow.FromServer = one_good (Flow flow.FromServer) refl

module _ (room : ℕ) (t : Table) (h : Shaped room t) (w : well_formed t ≡ true) where
  name_good_lem : good (Name (take t.len t.name)) ≡ true
  name_good_lem =
      let f = formed t w in
      let l = leb-true t.len max_name (both_right (leb 1 t.len) (leb t.len max_name) f.name_length_lem) in
      let e : length (take t.len t.name) ≡ t.len = omega (arith, l, length-take t.len t.name, h.named) in
      rw e (both (both f.name_length_lem f.name_bytes) refl)

  -- after the bytes in use there are zeros
  all_bytes : all? is_byte t.bytes ≡ true
  all_bytes =
      let f = formed t w in
      let z = all_so is_zero is_byte (λ b u. le-leb b max_byte (omega (arith, eqb-true b 0 u))) (drop t.used t.bytes) f.bytes_rest in
      subst (λ l. all? is_byte l ≡ true) (take-append-drop t.used t.bytes)
      (all_append is_byte (take t.used t.bytes) (drop t.used t.bytes) f.bytes z)

  pub canonical_good : all? good (canonical_options t) ≡ true
  unfolding canonical_options
  canonical_good =
      let f = formed t w in
      let e = f.used in
      let rest = slot_options (slots_of t) t.bytes in
      all_more good (Name (take t.len t.name)) (Protocol t.protocol ∷ (flow_option t.flow ++ rest)) name_good_lem
      (all_more good (Protocol t.protocol) (flow_option t.flow ++ rest) (both f.protocol refl)
      (all_append good (flow_option t.flow) rest (flow_good t.flow)
      (slots_good (slots_of t) t.bytes f.slots (all_take whole_slot t.count t.items (slots_shaped room t h)) all_bytes
      (usable_writable None (patterns_of (slots_of t)) f.usable) (omega (arith, e, f.used_most)))))
