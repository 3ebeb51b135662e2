-- The state of one option more is the state before it with the code's change: field by field, by what one option more does.
use mathlib.Core.Path.{◌≡◌, refl, ap, ◌∙◌}
use mathlib.Core.Bool.{Bool, true, false}
use mathlib.Core.List.{List, [], ◌∷◌, ◌++◌, append-nil}
use Prim.Native.Nat.{ℕ, ◌+◌, ◌<◌}
use lib.ListN.{length, length-append, set, length-set}
use Rattle.definitions.specs.declared.table.Flow.TheVariants.{Any}
use Rattle.definitions.specs.declared.table.Flow as flows
use Rattle.definitions.specs.declared.table.Item.{Item}
use Rattle.definitions.specs.declared.table.Item.TheVariants as item
use Rattle.definitions.specs.declared.table.Address.{Address}
use Rattle.definitions.specs.declared.table.Slot.{Slot}
use Rattle.definitions.specs.Limits.{max_patterns}
use Rattle.definitions.specs.Lists.{any?, keep, count, padded}
use Rattle.definitions.specs.OptionValues.{Modifier, Context, NoCase, Distance, Within, OptionValue, Name, Protocol, Flow, Test, Pattern, Modified}
use Rattle.definitions.specs.Tables.{name_in, protocol_in, flow_in, bytes_in, slots_in, slot_of, modified, bare}
use Rattle.definitions.specs.Occurrences.{same_kind, is_test, is_pattern, latest}
use Rattle.read_state.specs.declared.State.{State}
use Rattle.read_state.specs.State.{last_place, given_in, state_from}
use Rattle.read_insert.specs.Inserting.{with_name, with_protocol, with_flow}
use Rattle.read_insert_counted.specs.Counting.{with_test, with_new_pattern}
use Rattle.read_insert_modifiers.specs.Modifying.{with_given, given_also}
use Rattle.list_laws.proofs.Padded.{padded_one}
use Rattle.read_insert.proofs.OptionEffects.{name_after, name_first, protocol_after, protocol_first, flow_after, flow_first, bytes_append}
use Rattle.read_insert.proofs.OptionEffects.{last_after_all_lem, last_new}
use Rattle.read_insert.proofs.LastPattern.{LastIs, last_is}
use Rattle.read_insert.proofs.Agreement.{alike, given_now, given_kept, any_same, any_new, count_same, count_new, bytes_same, slots_same, slots_new}

pub bytes_also : (es : List OptionValue) (neg : Bool) (b : List ℕ) → bytes_in (es ++ (Pattern neg b ∷ [])) ≡ bytes_in es ++ b
unfolding bytes_in
bytes_also es neg b = bytes_append es (Pattern neg b ∷ []) ∙ ap (λ (l : List ℕ). bytes_in es ++ l) (append-nil b)

module _ (from : ℕ) (es : List OptionValue) (ds : List ℕ) where
  -- whatever place the name before was said at: there is none
  pub name_step : (at : ℕ) (x : List ℕ) → any? (same_kind (Name [])) es ≡ false
      → state_from at (es ++ (Name x ∷ [])) ds ≡ with_name (state_from from es ds) at (length x)
  unfolding state_from name_in protocol_in flow_in bytes_in slots_in modified any? keep latest last_place
  name_step at x h =
      alike (state_from at (es ++ (Name x ∷ [])) ds) (with_name (state_from from es ds) at (length x))
      (record {
        from = refl;
        len = ap length (name_first es (Name x ∷ []) h);
        protocol = protocol_after es (Name x ∷ []) refl;
        flow = flow_after es (Name x ∷ []) refl;
        used = ap length (bytes_same es (Name x) refl);
        count = ap length (slots_same es (Name x) (λ p. refl) refl);
        given = given_now es (Name x) (latest [] es)
            (any_new es (Name x) (same_kind (Name [])) refl)
            (any_same es (Name x) (same_kind (Protocol 0)) refl)
            (any_same es (Name x) (same_kind (Flow Any)) refl) refl;
        patterns = count_same es (Name x) is_pattern refl;
        tests = count_same es (Name x) is_test refl;
        last = last_after_all_lem es (Name x ∷ []) refl refl;
        dashes = refl;
      })

  pub protocol_step : (p : ℕ) → any? (same_kind (Protocol 0)) es ≡ false
      → state_from from (es ++ (Protocol p ∷ [])) ds ≡ with_protocol (state_from from es ds) p
  unfolding state_from name_in protocol_in flow_in bytes_in slots_in modified any? keep latest last_place
  protocol_step p h =
      alike (state_from from (es ++ (Protocol p ∷ [])) ds) (with_protocol (state_from from es ds) p)
      (record {
        from = refl;
        len = ap length (name_after es (Protocol p ∷ []) refl);
        protocol = protocol_first es (Protocol p ∷ []) h;
        flow = flow_after es (Protocol p ∷ []) refl;
        used = ap length (bytes_same es (Protocol p) refl);
        count = ap length (slots_same es (Protocol p) (λ p. refl) refl);
        given = given_now es (Protocol p) (latest [] es)
            (any_same es (Protocol p) (same_kind (Name [])) refl)
            (any_new es (Protocol p) (same_kind (Protocol 0)) refl)
            (any_same es (Protocol p) (same_kind (Flow Any)) refl) refl;
        patterns = count_same es (Protocol p) is_pattern refl;
        tests = count_same es (Protocol p) is_test refl;
        last = last_after_all_lem es (Protocol p ∷ []) refl refl;
        dashes = refl;
      })

  pub flow_step : (f : flows.Flow) → any? (same_kind (Flow Any)) es ≡ false
      → state_from from (es ++ (Flow f ∷ [])) ds ≡ with_flow (state_from from es ds) f
  unfolding state_from name_in protocol_in flow_in bytes_in slots_in modified any? keep latest last_place
  flow_step f h =
      alike (state_from from (es ++ (Flow f ∷ [])) ds) (with_flow (state_from from es ds) f)
      (record {
        from = refl;
        len = ap length (name_after es (Flow f ∷ []) refl);
        protocol = protocol_after es (Flow f ∷ []) refl;
        flow = flow_first es (Flow f ∷ []) h;
        used = ap length (bytes_same es (Flow f) refl);
        count = ap length (slots_same es (Flow f) (λ p. refl) refl);
        given = given_now es (Flow f) (latest [] es)
            (any_same es (Flow f) (same_kind (Name [])) refl)
            (any_same es (Flow f) (same_kind (Protocol 0)) refl)
            (any_new es (Flow f) (same_kind (Flow Any)) refl) refl;
        patterns = count_same es (Flow f) is_pattern refl;
        tests = count_same es (Flow f) is_test refl;
        last = last_after_all_lem es (Flow f ∷ []) refl refl;
        dashes = refl;
      })

  pub test_step : (it : Item) (al : List Address)
      → state_from from (es ++ (Test it al ∷ [])) ds ≡ with_test (state_from from es ds)
  unfolding state_from name_in protocol_in flow_in bytes_in slots_in modified any? keep latest last_place
  test_step it al =
      alike (state_from from (es ++ (Test it al ∷ [])) ds) (with_test (state_from from es ds))
      (record {
        from = refl;
        len = ap length (name_after es (Test it al ∷ []) refl);
        protocol = protocol_after es (Test it al ∷ []) refl;
        flow = flow_after es (Test it al ∷ []) refl;
        used = ap length (bytes_same es (Test it al) refl);
        count = ap length (slots_new es (Test it al) (slot_of it al) (λ p. refl) refl) ∙ length-append (slots_in es) (slot_of it al ∷ []);
        given = given_kept es (Test it al) (latest [] es) refl refl refl refl;
        patterns = count_same es (Test it al) is_pattern refl;
        tests = count_new es (Test it al) is_test refl;
        last = last_after_all_lem es (Test it al ∷ []) refl refl;
        dashes = refl;
      })

  pub pattern_step : (neg : Bool) (b : List ℕ) (dash : ℕ) → length ds < max_patterns → length ds ≡ count is_pattern es
      → state_from from (es ++ (Pattern neg b ∷ [])) (ds ++ (dash ∷ [])) ≡ with_new_pattern (state_from from es ds) dash (length (bytes_in es) + length b)
  unfolding state_from name_in protocol_in flow_in bytes_in slots_in modified any? keep latest last_place
  pattern_step neg b dash g e =
      let sl : Slot = slot_of (item.Pattern (bare neg (length b))) [] in
      alike (state_from from (es ++ (Pattern neg b ∷ [])) (ds ++ (dash ∷ []))) (with_new_pattern (state_from from es ds) dash (length (bytes_in es) + length b))
      (record {
        from = refl;
        len = ap length (name_after es (Pattern neg b ∷ []) refl);
        protocol = protocol_after es (Pattern neg b ∷ []) refl;
        flow = flow_after es (Pattern neg b ∷ []) refl;
        used = ap length (bytes_also es neg b) ∙ length-append (bytes_in es) b;
        count = ap length (slots_new es (Pattern neg b) sl (λ p. refl) refl) ∙ length-append (slots_in es) (sl ∷ []);
        given = given_kept es (Pattern neg b) [] refl refl refl refl;
        patterns = count_new es (Pattern neg b) is_pattern refl;
        tests = count_same es (Pattern neg b) is_test refl;
        last = last_new es neg b;
        dashes = padded_one max_patterns 0 ds dash g ∙ ap (λ (k : ℕ). set (padded max_patterns 0 ds) k dash) e;
      })

  -- a modifier that is given
  given_step : (m : Modifier) → given_in (es ++ (Modified m ∷ [])) ≡ given_also m (given_in es)
  unfolding any? latest
  given_step (Context c) = given_kept es (Modified (Context c)) (Context c ∷ latest [] es) refl refl refl refl
  given_step NoCase = given_kept es (Modified NoCase) (NoCase ∷ latest [] es) refl refl refl refl
  given_step (Distance d) = given_kept es (Modified (Distance d)) (Distance d ∷ latest [] es) refl refl refl refl
  given_step (Within w) = given_kept es (Modified (Within w)) (Within w ∷ latest [] es) refl refl refl refl

  pub modifier_step : (m : Modifier) → any? is_pattern es ≡ true
      → state_from from (es ++ (Modified m ∷ [])) ds ≡ with_given (state_from from es ds) (given_also m (state_from from es ds).given)
  unfolding state_from name_in protocol_in flow_in bytes_in any? keep last_place
  modifier_step m h =
      let k : LastIs es (last_is es h).0 = (last_is es h).1 in
      let st : State = state_from from es ds in
      alike (state_from from (es ++ (Modified m ∷ [])) ds) (with_given st (given_also m st.given))
      (record {
        from = refl;
        len = ap length (name_after es (Modified m ∷ []) refl);
        protocol = protocol_after es (Modified m ∷ []) refl;
        flow = flow_after es (Modified m ∷ []) refl;
        used = ap length (bytes_same es (Modified m) refl);
        count = ap length (k.changed m) ∙ length-set (slots_in es) (last_place es) _;
        given = given_step m;
        patterns = count_same es (Modified m) is_pattern refl;
        tests = count_same es (Modified m) is_test refl;
        last = last_after_all_lem es (Modified m ∷ []) refl refl;
        dashes = refl;
      })
