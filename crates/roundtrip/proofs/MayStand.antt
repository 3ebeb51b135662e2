-- Each option of a table's canonical text may stand after those before it: tests and patterns by their counts, and a pattern's modifiers since they stand in
-- one order, so that none was met after the pattern.
use Rattle.std.specs.Prelude.{Some, None, Ok, Option}
use mathlib.Core.Path.{◌≡◌, refl, sym, subst, ◌∙◌}
use mathlib.Core.Bool.{Bool, true, false}
use mathlib.Core.List.{List, [], ◌∷◌, ◌++◌}
use Prim.Native.Nat.{ℕ, suc, ◌+◌, ◌≤◌}
use native.Mathlib.Omega.{arith}
use lib.ListN.{length, take}
use lib.Dec.{ltb}
use borrow.Author.Tests.{ne_eqb, lt-ltb, le-ltb, ltb-true, lt-leb, leb-true}
use Rattle.definitions.specs.declared.table.Flow as flows
use Rattle.definitions.specs.declared.table.Flow.TheVariants as flow
use Rattle.definitions.specs.declared.table.Context as contexts
use Rattle.definitions.specs.declared.table.Context.TheVariants as context
use Rattle.definitions.specs.declared.table.Pattern as patterns
use Rattle.definitions.specs.declared.table.Item.{Item}
use Rattle.definitions.specs.declared.table.Address.{Address}
use Rattle.definitions.specs.declared.table.Slot.{Slot}
use Rattle.definitions.specs.declared.table.Table.{Table}
use Rattle.definitions.specs.declared.table.DistanceValue.{DistanceValue}
use Rattle.definitions.specs.declared.table.WithinValue.{WithinValue}
use Rattle.definitions.specs.Limits.{max_patterns, max_tests, max_addresses}
use Rattle.definitions.specs.Lists.{all?, any?, keep, count}
use Rattle.definitions.specs.OptionValues.{Modifier, Context, NoCase, Distance, Within, OptionValue, Name, Protocol, Flow, Test, Pattern, Modified}
use Rattle.definitions.specs.Items.{Kind, unused, addressed, patterned, plain_test, kind_of, slots_of, after_item}
use Rattle.definitions.specs.Occurrences.{is_test, is_pattern, modifier_number, same_modifier, latest, occurrence_check}
use Rattle.definitions.specs.Canonical.{flow_option, context_option, no_case_option, distance_option, within_option, item_options, slot_options, canonical_options}
use Rattle.definitions.specs.Grammar.{Occurrences, none}
use Rattle.roundtrip.proofs.AllTests.{all_none, all_more, all_head, all_tail, all_so, all_after}
use Rattle.roundtrip.proofs.Counts.{count_append, few_addresses}
use Rattle.roundtrip.proofs.Patterned.{modifier_options, modifiers_joined}

-- ---- the modifiers after the last pattern

latest_pattern : (es : List OptionValue) (ms : List Modifier) (n : Bool) (b : List ℕ) → latest ms (es ++ (Pattern n b ∷ [])) ≡ []
unfolding latest
latest_pattern [] ms n b = refl
latest_pattern (Name m ∷ es) ms n b = latest_pattern es ms n b
latest_pattern (Protocol p ∷ es) ms n b = latest_pattern es ms n b
latest_pattern (Flow f ∷ es) ms n b = latest_pattern es ms n b
latest_pattern (Test it al ∷ es) ms n b = latest_pattern es ms n b
latest_pattern (Pattern m c ∷ es) ms n b = latest_pattern es [] n b
latest_pattern (Modified m ∷ es) ms n b = latest_pattern es (m ∷ ms) n b

latest_modifier : (es : List OptionValue) (ms : List Modifier) (m : Modifier) → latest ms (es ++ (Modified m ∷ [])) ≡ m ∷ latest ms es
unfolding latest
latest_modifier [] ms m = refl
latest_modifier (Name n ∷ es) ms m = latest_modifier es ms m
latest_modifier (Protocol p ∷ es) ms m = latest_modifier es ms m
latest_modifier (Flow f ∷ es) ms m = latest_modifier es ms m
latest_modifier (Test it al ∷ es) ms m = latest_modifier es ms m
latest_modifier (Pattern n b ∷ es) ms m = latest_modifier es [] m
latest_modifier (Modified n ∷ es) ms m = latest_modifier es (n ∷ ms) m

-- modifiers that stand before number k in canonical order
abbrev below : ℕ → Modifier → Bool
below k m = ltb (modifier_number m) k

none_again : (m : Modifier) (ms : List Modifier) → all? (below (modifier_number m)) ms ≡ true → any? (same_modifier m) ms ≡ false
unfolding any?
none_again m [] t = refl
none_again m (n ∷ ms) t =
    let h = ltb-true (modifier_number n) (modifier_number m) (all_head (below (modifier_number m)) n ms t) in
    rw (ne_eqb (modifier_number m) (modifier_number n) (λ e. omega (arith, e, h))) (none_again m ms (all_tail (below (modifier_number m)) n ms t))

-- ---- after a pattern

-- so many tests and patterns, one at least; the modifiers met stand before number k
record After (tests patterns k : ℕ) (before : List OptionValue) : Type 0 where
  test_count : count is_test before ≡ tests
  pattern_count_lem : count is_pattern before ≡ patterns
  some : 1 ≤ patterns
  low : all? (below k) (latest [] before) ≡ true

module _ (tests patterns : ℕ) (rest : List OptionValue) where
  -- the rest may stand wherever modifiers up to number k were met
  abbrev Goes : ℕ → Type 0
  Goes k = (before : List OptionValue) → After tests patterns k before → Occurrences before rest

  passed : (k : ℕ) (before : List OptionValue) → After tests patterns k before → After tests patterns (suc k) before
  passed k before i =
      record {
        test_count = i.test_count;
        pattern_count_lem = i.pattern_count_lem;
        some = i.some;
        low = all_so (below k) (below (suc k)) (λ m t. lt-ltb (modifier_number m) (suc k) (omega (arith, ltb-true (modifier_number m) k t)))
            (latest [] before) i.low;
      }

  modifier_stands : (m : Modifier) (before : List OptionValue) → After tests patterns (modifier_number m) before → Goes (suc (modifier_number m))
      → Occurrences before (Modified m ∷ rest)
  unfolding occurrence_check keep
  modifier_stands m before i k =
      let e = i.pattern_count_lem in
      let l = latest_modifier before [] m in
      let j = passed (modifier_number m) before i in
      let f : occurrence_check before (Modified m) ≡ Ok tt =
      rw (ne_eqb (count is_pattern before) 0 (λ z. omega (arith, z, e, i.some)), none_again m (latest [] before) i.low) in
      Occurrences.more f
      (k (before ++ (Modified m ∷ []))
      (record {
        test_count = count_append is_test before (Modified m ∷ []) ∙ omega (arith, i.test_count);
        pattern_count_lem = count_append is_pattern before (Modified m ∷ []) ∙ omega (arith, e);
        some = i.some;
        low = rw l (all_more (below (suc (modifier_number m))) m (latest [] before) (lt-ltb (modifier_number m) (suc (modifier_number m)) (omega arith)) j.low);
      }))

-- ---- the four modifiers, each if it is given

module _ (tests patterns : ℕ) (rest before : List OptionValue) where
  context_stands : (c : contexts.Context) → After tests patterns 0 before → Goes tests patterns rest 1 → Occurrences before (context_option c ++ rest)
  context_stands context.Packet i k = k before (passed tests patterns rest 0 before i)
  context_stands context.Uri i k = modifier_stands tests patterns rest (Context context.Uri) before i k
  context_stands context.Header i k = modifier_stands tests patterns rest (Context context.Header) before i k
  context_stands context.Body i k = modifier_stands tests patterns rest (Context context.Body) before i k
  context_stands context.Banner i k = modifier_stands tests patterns rest (Context context.Banner) before i k
  context_stands context.Host i k = modifier_stands tests patterns rest (Context context.Host) before i k
  context_stands context.File i k = modifier_stands tests patterns rest (Context context.File) before i k

  no_case_stands : (n : Bool) → After tests patterns 1 before → Goes tests patterns rest 2 → Occurrences before (no_case_option n ++ rest)
  no_case_stands true i k = modifier_stands tests patterns rest NoCase before i k
  no_case_stands false i k = k before (passed tests patterns rest 1 before i)

  distance_stands : (d : Option DistanceValue) → After tests patterns 2 before → Goes tests patterns rest 3 → Occurrences before (distance_option d ++ rest)
  distance_stands None i k = k before (passed tests patterns rest 2 before i)
  distance_stands (Some d) i k = modifier_stands tests patterns rest (Distance d) before i k

  within_stands : (w : Option WithinValue) → After tests patterns 3 before → Goes tests patterns rest 4 → Occurrences before (within_option w ++ rest)
  within_stands None i k = k before (passed tests patterns rest 3 before i)
  within_stands (Some w) i k = modifier_stands tests patterns rest (Within w) before i k

modifiers_stand : (t n : ℕ) (rest : List OptionValue) (p : patterns.Pattern) (before : List OptionValue) → After t n 0 before → Goes t n rest 4
    → Occurrences before (modifier_options p ++ rest)
modifiers_stand t n rest p before i k =
    let w = within_option p.within ++ rest in
    let d = distance_option p.distance ++ w in
    subst (Occurrences before) (sym (modifiers_joined p rest))
    (context_stands t n (no_case_option p.nocase ++ d) before p.context i
    (λ a j. no_case_stands t n d a p.nocase j
    (λ b l. distance_stands t n w b p.distance l
    (λ c m. within_stands t n rest c p.within m k))))

-- ---- slots

-- what is asked of options that are to stand after others
record PatternBytes (before es : List OptionValue) : Type 0 where
  addresses : all? few_addresses es ≡ true
  tests : count is_test before + count is_test es ≤ max_tests
  patterns : count is_pattern before + count is_pattern es ≤ max_patterns

module _ (rest : List OptionValue) (k : (before : List OptionValue) → PatternBytes before rest → Occurrences before rest) (before : List OptionValue) where
  test_stands : (it : Item) (al : List Address) → PatternBytes before (Test it al ∷ rest) → Occurrences before (Test it al ∷ rest)
  unfolding occurrence_check keep
  test_stands it al r =
      let a = leb-true (length al) max_addresses (all_head few_addresses (Test it al) rest r.addresses) in
      let f : occurrence_check before (Test it al) ≡ Ok tt =
      rw (le-ltb max_addresses (length al) a, lt-leb max_tests (count is_test before) (omega (arith, r.tests))) in
      Occurrences.more f
      (k (before ++ (Test it al ∷ []))
      (record {
        addresses = all_tail few_addresses (Test it al) rest r.addresses;
        tests = omega (arith, r.tests, count_append is_test before (Test it al ∷ []));
        patterns = omega (arith, r.patterns, count_append is_pattern before (Test it al ∷ []));
      }))

  pattern_stands : (p : patterns.Pattern) (b : List ℕ) → PatternBytes before (Pattern p.negated b ∷ (modifier_options p ++ rest))
      → Occurrences before (Pattern p.negated b ∷ (modifier_options p ++ rest))
  unfolding occurrence_check keep
  pattern_stands p b r =
      let e = Pattern p.negated b in
      let ms = modifier_options p in
      let ct = count_append is_test before (e ∷ []) in
      let cp = count_append is_pattern before (e ∷ []) in
      let dt = count_append is_test ms rest in
      let dp = count_append is_pattern ms rest in
      let f : occurrence_check before e ≡ Ok tt = rw (lt-leb max_patterns (count is_pattern before) (omega (arith, r.patterns))) in
      let i : After (count is_test before) (count is_pattern before + 1) 0 (before ++ (e ∷ [])) = record {
        test_count = omega (arith, ct);
        pattern_count_lem = omega (arith, cp);
        some = omega arith;
        low = rw (latest_pattern before [] p.negated b) (all_none (below 0));
      } in
      Occurrences.more f
      (modifiers_stand (count is_test before) (count is_pattern before + 1) rest p (before ++ (e ∷ [])) i
      (λ c j. k c (record {
        addresses = all_after few_addresses ms rest (all_tail few_addresses e (ms ++ rest) r.addresses);
        tests = omega (arith, r.tests, dt, j.test_count);
        patterns = omega (arith, r.patterns, dp, j.pattern_count_lem);
      })))

  item_stands : (i : Kind) (sl : Slot) (b : List ℕ) → PatternBytes before (item_options i sl b ++ rest) → Occurrences before (item_options i sl b ++ rest)
  item_stands unused sl b r = k before r
  item_stands (addressed a) sl b r = test_stands sl.item (take a.count sl.addresses) r
  item_stands (patterned p) sl b r = pattern_stands p (take p.len b) r
  item_stands plain_test sl b r = test_stands sl.item [] r

slots_stand : (sls : List Slot) (b : List ℕ) (before : List OptionValue) → PatternBytes before (slot_options sls b) → Occurrences before (slot_options sls b)
unfolding slot_options
slots_stand [] b before r = none
slots_stand (sl ∷ sls) b before r =
    let i = kind_of sl.item in
    item_stands (slot_options sls (after_item i b)) (λ c q. slots_stand sls (after_item i b) c q) before i sl b r

-- ---- the whole table

flow_stands : (f : flows.Flow) (rest : List OptionValue) (n : List ℕ) (p : ℕ)
    → ((before : List OptionValue) → count is_test before ≡ 0 → count is_pattern before ≡ 0 → Occurrences before rest)
    → Occurrences (Name n ∷ Protocol p ∷ []) (flow_option f ++ rest)
unfolding occurrence_check any? keep
flow_stands flow.Any rest n p k = k (Name n ∷ Protocol p ∷ []) refl refl
flow_stands flow.FromClient rest n p k = Occurrences.more refl (k (Name n ∷ Protocol p ∷ Flow flow.FromClient ∷ []) refl refl)
flow_stands flow.FromServer rest n p k = Occurrences.more refl (k (Name n ∷ Protocol p ∷ Flow flow.FromServer ∷ []) refl refl)

pub canonical_stands : (t : Table) → all? few_addresses (canonical_options t) ≡ true → count is_test (canonical_options t) ≤ max_tests
    → count is_pattern (canonical_options t) ≤ max_patterns → Occurrences [] (canonical_options t)
unfolding canonical_options occurrence_check any?
canonical_stands t a n p =
    let nm = take t.len t.name in
    let rest = slot_options (slots_of t) t.bytes in
    let front = Name nm ∷ Protocol t.protocol ∷ flow_option t.flow in
    let ct = count_append is_test front rest in
    let cp = count_append is_pattern front rest in
    Occurrences.more refl (Occurrences.more refl (flow_stands t.flow rest nm t.protocol
    (λ before e g. slots_stand (slots_of t) t.bytes before
    (record { addresses = all_after few_addresses front rest a; tests = omega (arith, n, ct, e); patterns = omega (arith, p, cp, g) }))))
