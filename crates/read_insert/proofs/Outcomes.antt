-- What is due for a value is what the definition says, and the state after it is that of one option more: the code's tests are the definition's, and its
-- changes are those of the steps.
use Rattle.std.specs.Prelude.{if◌then◌else◌, Some, Result, Ok, Err}
use mathlib.Core.Path.{◌≡◌, refl, sym, ap, ◌∙◌}
use mathlib.Core.Bool.{Bool, true, false}
use mathlib.Core.List.{List, [], ◌∷◌, ◌++◌}
use Prim.Native.Nat.{ℕ, ◌+◌, ◌≤◌, ◌<◌}
use native.Mathlib.Omega.{arith}
use lib.ListN.{length, take, drop, set, length-drop}
use lib.Seq.{sets, length-take-le, take_all}
use lib.Dec.{eqb, ltb, leb}
use borrow.Author.Tests.{le-ltb, ltb-false, leb-false, not-false}
use Rattle.definitions.specs.declared.answers.Refusal.{Refusal}
use Rattle.definitions.specs.declared.answers.Refusal.TheVariants as refusal
use Rattle.definitions.specs.declared.table.Flow as flows
use Rattle.definitions.specs.declared.table.AddressTest.{AddressTest}
use Rattle.definitions.specs.declared.table.Item.{Item}
use Rattle.definitions.specs.declared.table.Item.TheVariants as item
use Rattle.definitions.specs.declared.table.Address.{Address}
use Rattle.definitions.specs.declared.table.Slot.{Slot}
use Rattle.definitions.specs.Limits.{document_limits, max_name, max_patterns, max_tests, max_items, max_addresses}
use Rattle.definitions.specs.Lists.{any?, keep, count, padded}
use Rattle.definitions.specs.OptionValues.{Modifier, Context, NoCase, Distance, Within, OptionValue, Name, Protocol, Flow, Test, Pattern, Modified}
use Rattle.definitions.specs.Tables.{name_in, bytes_in, slots_in, slot_of, no_address, modified, bare, with}
use Rattle.definitions.specs.Occurrences.{same_kind, is_test, is_pattern, same_modifier, latest, occurrence_check}
use Rattle.definitions.specs.Reading.{Located, option_values_of}
use Rattle.read_state.specs.declared.State.{State}
use Rattle.read_state.specs.declared.Inserted.{Inserted}
use Rattle.read_state.specs.State.{dashes_of, given_in, state_from, state_of, located_also, NameAt, Holds, last_slot, Inserts}
use Rattle.read_state.specs.Sound.{without_item, with_item}
use Rattle.read_insert.specs.Inserting.{with_name, with_protocol, with_flow, name_inserted, protocol_inserted, flow_inserted}
use Rattle.read_insert_counted.specs.Counting.{with_test, with_new_pattern, test_inserted, addresses_inserted, pattern_inserted}
use Rattle.read_insert_modifiers.specs.Modifying.{pattern_of, slot_with, with_given, modifier_by, modifier_inserted, already, given_also}
use Rattle.read_insert.proofs.OptionEffects.{slots_length, name_after, name_first}
use Rattle.definitions.specs.declared.table.Flow.TheVariants.{Any}
use Rattle.read_insert.proofs.LastPattern.{last_is}
use Rattle.read_insert.proofs.Agreement.{count_same, count_new, bytes_same}
use Rattle.read_insert.proofs.Steps.{bytes_also, name_step, protocol_step, flow_step, test_step, pattern_step, modifier_step}
use Rattle.list_laws.proofs.Padded.{padded_more}
use Rattle.read_insert.proofs.Items.{items_of, items_same, items_new, items_changed}
use Rattle.read_insert.proofs.OneMore.{count_none, dashes_same, dashes_new, dashes_length, holds_also}

module _ (s : List ℕ) (located : List Located) (dash : ℕ) (e : OptionValue) (bytes : List ℕ) (items : List Slot) where
  refused_if : (t : Bool) (x : Refusal) (r : Result Inserted Refusal) → (t ≡ true → occurrence_check (option_values_of located) e ≡ Err x)
      → (t ≡ false → Inserts s located dash e bytes items r)
      → Inserts s located dash e bytes items (if t then Err x else r)
  refused_if true x r h k = h refl
  refused_if false x r h k = k refl

already_is : (m : Modifier) (es : List OptionValue) → already m (given_in es) ≡ any? (same_modifier m) (latest [] es)
already_is (Context c) es = refl
already_is NoCase es = refl
already_is (Distance d) es = refl
already_is (Within w) es = refl

module _ (s : List ℕ) (located : List Located) (dash from : ℕ) (bytes : List ℕ) (items : List Slot)
    (h : Holds s located (state_of from located) bytes items) where
  abbrev es : List OptionValue
  es = option_values_of located

  abbrev now : State
  now = state_of from located

  few : length (slots_in es) ≤ max_items
  few = let p = h.patterns in let t = h.tests in omega (arith, slots_length es, p, t)

  -- an option that says no name leaves it where it was
  same_name : (e : OptionValue) → name_in (e ∷ []) ≡ [] → NameAt s from (length (name_in es)) (name_in (es ++ (e ∷ [])))
  unfolding state_from
  same_name e n = rw (name_after es (e ∷ []) n) h.named

  same_bytes_lem : (e : OptionValue) → bytes_in (e ∷ []) ≡ [] → bytes ≡ padded document_limits.room 0 (bytes_in (es ++ (e ∷ [])))
  same_bytes_lem e b = h.stored ∙ ap (padded document_limits.room 0) (sym (bytes_same es e b))

  -- an option that is not counted
  uncounted : (e : OptionValue) (st : State) (after : List Slot) → is_pattern e ≡ false → count is_pattern (e ∷ []) ≡ 0 → count is_test (e ∷ []) ≡ 0
      → bytes_in (e ∷ []) ≡ [] → st ≡ state_from st.from (es ++ (e ∷ [])) (dashes_of located) → NameAt s st.from st.len (name_in (es ++ (e ∷ [])))
      → after ≡ items_of (es ++ (e ∷ [])) → Holds s (located_also located dash e) st bytes after
  uncounted e st after d p t b k n i =
      holds_also s located dash e (dashes_of located) st bytes after (dashes_same located dash e d) k n (same_bytes_lem e b) i
      (omega (arith, count_same es e is_pattern p, h.patterns))
      (omega (arith, count_same es e is_test t, h.tests))

  pub name_outcome : (at n : ℕ) → n ≤ max_name → at + n ≤ length s
      → Inserts s located dash (Name (take n (drop at s))) bytes items (name_inserted now at n)
  unfolding name_inserted state_from occurrence_check keep name_in bytes_in slots_in modified
  name_outcome at n short inside =
      let x : List ℕ = take n (drop at s) in
      let l : length x ≡ n = length-take-le n (drop at s) (omega (arith, length-drop at s)) in
      refused_if s located dash (Name x) bytes items (any? (same_kind (Name [])) es) refusal.Repeated (Ok (without_item (with_name now at n)))
      (λ t. rw t)
      (λ new. (
        rw new,
        uncounted (Name x) (with_name now at n) items refl refl refl refl
            (ap (with_name now at) (sym l) ∙ sym (name_step from es (dashes_of located) at x new))
            (record { is = sym (name_first es (Name x ∷ []) new); inside = inside; short = short })
            (items_same es items h.slots (Name x) (λ p. refl) refl),
        tt,
      ))

  pub protocol_outcome : (p : ℕ) → Inserts s located dash (Protocol p) bytes items (protocol_inserted now p)
  unfolding protocol_inserted state_from occurrence_check keep name_in bytes_in slots_in modified
  protocol_outcome p =
      refused_if s located dash (Protocol p) bytes items (any? (same_kind (Protocol 0)) es) refusal.Repeated (Ok (without_item (with_protocol now p)))
      (λ t. rw t)
      (λ new. (
        rw new,
        uncounted (Protocol p) (with_protocol now p) items refl refl refl refl
            (sym (protocol_step from es (dashes_of located) p new))
            (same_name (Protocol p) refl) (items_same es items h.slots (Protocol p) (λ p. refl) refl),
        tt,
      ))

  pub flow_outcome : (w : flows.Flow) → Inserts s located dash (Flow w) bytes items (flow_inserted now w)
  unfolding flow_inserted state_from occurrence_check keep name_in bytes_in slots_in modified
  flow_outcome w =
      refused_if s located dash (Flow w) bytes items (any? (same_kind (Flow Any)) es) refusal.Repeated (Ok (without_item (with_flow now w)))
      (λ t. rw t)
      (λ new. (
        rw new,
        uncounted (Flow w) (with_flow now w) items refl refl refl refl
            (sym (flow_step from es (dashes_of located) w new))
            (same_name (Flow w) refl) (items_same es items h.slots (Flow w) (λ p. refl) refl),
        tt,
      ))

  pub test_outcome : (it : Item) (al list : List Address) → length al ≤ max_addresses → list ≡ padded max_addresses no_address al
      → Inserts s located dash (Test it al) bytes items (test_inserted now it list)
  unfolding test_inserted state_from occurrence_check keep name_in bytes_in slots_in modified
  test_outcome it al list k e =
      let sl : Slot = record { item = it; addresses = list } in
      let fewer : ltb max_addresses (length al) ≡ false = le-ltb max_addresses (length al) k in
      refused_if s located dash (Test it al) bytes items (leb max_tests (count is_test es)) refusal.CountExceeded (Ok (with_item now (with_test now) sl))
      (λ t. rw (fewer, t))
      (λ f.
      let m : count is_test es < max_tests = leb-false max_tests (count is_test es) f in
      let room : length (slots_in es) < max_items = omega (arith, slots_length es, h.patterns, m) in (
        rw (fewer, f),
        holds_also s located dash (Test it al) (dashes_of located) (with_test now) bytes _ (dashes_same located dash (Test it al) refl)
            (sym (test_step from es (dashes_of located) it al)) (same_name (Test it al) refl) (same_bytes_lem (Test it al) refl)
            (ap (λ (l : List Address). set items (length (slots_in es)) (record { item = it; addresses = l })) e
            ∙ items_new es items h.slots (Test it al) (slot_of it al) room (λ p. refl) refl)
            (omega (arith, count_same es (Test it al) is_pattern refl, h.patterns))
            (omega (arith, count_new es (Test it al) is_test refl, m)),
        room,
      ))

  pub addresses_outcome : (a : AddressTest) (al list : List Address) → a.count ≡ length al
      → list ≡ padded max_addresses no_address (take max_addresses al)
      → Inserts s located dash (Test (item.Address a) al) bytes items (addresses_inserted now a list)
  unfolding addresses_inserted occurrence_check
  addresses_outcome a al list k e =
      refused_if s located dash (Test (item.Address a) al) bytes items (ltb max_addresses a.count) refusal.CountExceeded
      (test_inserted now (item.Address a) list)
      (λ t. rw (sym (ap (ltb max_addresses) k) ∙ t))
      (λ f.
      let m : length al ≤ max_addresses = omega (arith, ltb-false max_addresses a.count f, k) in
      test_outcome (item.Address a) al list m (e ∙ ap (padded max_addresses no_address) (take_all max_addresses al m)))

  pub pattern_outcome : (neg : Bool) (n : ℕ) (b : List ℕ) (list : List Address) (used : ℕ) → n ≡ length b → list ≡ padded max_addresses no_address []
      → used ≡ now.used + length b → now.used + length b ≤ document_limits.room
      → Inserts s located dash (Pattern neg b) (sets bytes now.used b) items (pattern_inserted now dash neg n list used)
  unfolding pattern_inserted state_from occurrence_check keep name_in bytes_in slots_in modified
  pattern_outcome neg n b list used hn hl hu fits =
      let sl : Slot = record { item = item.Pattern (bare neg n); addresses = list } in
      refused_if s located dash (Pattern neg b) (sets bytes now.used b) items (leb max_patterns (count is_pattern es)) refusal.CountExceeded
      (Ok (with_item now (with_new_pattern now dash used) sl))
      (λ t. rw t)
      (λ f.
      let m : count is_pattern es < max_patterns = leb-false max_patterns (count is_pattern es) f in
      let room : length (slots_in es) < max_items = omega (arith, slots_length es, h.tests, m) in (
        rw f,
        holds_also s located dash (Pattern neg b) (dashes_of located ++ (dash ∷ [])) (with_new_pattern now dash used) (sets bytes now.used b) _
            (dashes_new located dash (Pattern neg b) refl)
            (ap (with_new_pattern now dash) hu
            ∙ sym (pattern_step from es (dashes_of located) neg b dash (omega (arith, dashes_length located, m)) (dashes_length located)))
            (same_name (Pattern neg b) refl)
            (ap (λ (l : List ℕ). sets l (length (bytes_in es)) b) h.stored
            ∙ sym (ap (padded document_limits.room 0) (bytes_also es neg b) ∙ padded_more document_limits.room 0 b (bytes_in es) fits))
            ((λ i. set items (length (slots_in es)) (record { item = item.Pattern (bare neg (hn i)); addresses = hl i }))
            ∙ items_new es items h.slots (Pattern neg b) (slot_of (item.Pattern (bare neg (length b))) []) room (λ p. refl) refl)
            (omega (arith, count_new es (Pattern neg b) is_pattern refl, m))
            (omega (arith, count_same es (Pattern neg b) is_test refl, h.tests)),
        room,
      ))

  pub modifier_outcome : (m : Modifier) (last : Slot) → last ≡ last_slot items now
      → Inserts s located dash (Modified m) bytes items (modifier_inserted now last m)
  unfolding modifier_by state_from occurrence_check keep name_in bytes_in slots_in modified
  modifier_outcome m last e =
      let again : Bool = already m (given_in es) in
      let changed : Inserted = record {
        state = with_given now (given_also m now.given);
        put = Some (record { place = now.last; slot = slot_with last (with m (pattern_of last.item)) });
      } in
      refused_if s located dash (Modified m) bytes items (eqb (count is_pattern es) 0) refusal.ModifierWithoutPattern
      (if again then Err refusal.Repeated else Ok changed)
      (λ t. rw t)
      (λ some.
      refused_if s located dash (Modified m) bytes items again refusal.Repeated (Ok changed)
      (λ t. rw (some, sym (already_is m es) ∙ t))
      (λ new.
      let stands : any? is_pattern es ≡ true = not-false (any? is_pattern es) (sym (count_none is_pattern es) ∙ some) in (
        rw (some, sym (already_is m es) ∙ new),
        uncounted (Modified m) (with_given now (given_also m now.given)) _ refl refl refl refl
            (sym (modifier_step from es (dashes_of located) m stands)) (same_name (Modified m) refl)
            (items_changed es items h.slots m _ last stands e),
        (let k = (last_is es stands).1.within in omega (arith, k, few)),
      )))
