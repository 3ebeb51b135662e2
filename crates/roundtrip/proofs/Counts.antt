-- Options that may stand one after the other are few: at most 16 tests and 8 patterns, and at most 8 addresses each. By induction on the options, each
-- of which was not refused after those before it.
use Rattle.std.specs.Prelude.{Ok}
use mathlib.Core.Path.{◌≡◌, refl, ap, ◌∙◌}
use mathlib.Core.Bool.{Bool, true, ◌||◌}
use mathlib.Core.List.{List, [], ◌∷◌, ◌++◌}
use Prim.Native.Nat.{◌+◌, ◌≤◌}
use native.Mathlib.Omega.{arith}
use lib.ListN.{length, length-append}
use lib.Dec.{ltb, leb}
use borrow.Author.Tests.{le-leb, leb-false, ltb-false}
use Rattle.definitions.specs.declared.answers.Refusal.TheVariants as refusal
use Rattle.definitions.specs.Limits.{max_patterns, max_tests, max_addresses}
use Rattle.definitions.specs.Lists.{all?, keep, count}
use Rattle.definitions.specs.OptionValues.{OptionValue, Name, Protocol, Flow, Test, Pattern, Modified}
use Rattle.definitions.specs.Tables.{slots_in}
use Rattle.definitions.specs.Occurrences.{is_test, is_pattern, occurrence_check}
use Rattle.definitions.specs.Grammar.{Occurrences, none}
use Rattle.laws.proofs.Keep.{keep_append}
use Rattle.laws.proofs.Checks.{refuse_fine, neither}
use Rattle.roundtrip.proofs.AllTests.{all_none, all_more}

-- ---- counts of lists put together

pub count_append : {A : Type 0} (f : A → Bool) (xs ys : List A) → count f (xs ++ ys) ≡ count f xs + count f ys
count_append f xs ys = ap length (keep_append f xs ys) ∙ length-append (keep f xs) (keep f ys)

abbrev pub few_addresses : OptionValue → Bool
few_addresses (Name n) = true
few_addresses (Protocol p) = true
few_addresses (Flow f) = true
few_addresses (Test it al) = leb (length al) max_addresses
few_addresses (Pattern n b) = true
few_addresses (Modified m) = true

-- after the options that came before
record Few (before es : List OptionValue) : Type 0 where
  tests : count is_test before ≤ max_tests → count is_test before + count is_test es ≤ max_tests
  patterns : count is_pattern before ≤ max_patterns → count is_pattern before + count is_pattern es ≤ max_patterns
  addresses : all? few_addresses es ≡ true

one_more : (before es : List OptionValue) (e : OptionValue) → (count is_test before ≤ max_tests → count is_test before + count is_test (e ∷ []) ≤ max_tests)
    → (count is_pattern before ≤ max_patterns → count is_pattern before + count is_pattern (e ∷ []) ≤ max_patterns) → few_addresses e ≡ true
    → Few (before ++ (e ∷ [])) es → Few before (e ∷ es)
one_more before es e t p a i =
    let ct = count_append is_test before (e ∷ []) in
    let cp = count_append is_pattern before (e ∷ []) in
    let dt = count_append is_test (e ∷ []) es in
    let dp = count_append is_pattern (e ∷ []) es in
    record {
      tests = λ h. let k = t h in let j = i.tests (omega (arith, ct, k)) in omega (arith, ct, dt, j);
      patterns = λ h. let k = p h in let j = i.patterns (omega (arith, cp, k)) in omega (arith, cp, dp, j);
      addresses = all_more few_addresses e es a i.addresses;
    }

few : {before es : List OptionValue} → Occurrences before es → Few before es
unfolding keep occurrence_check
few none = record { tests = λ h. omega arith; patterns = λ h. omega arith; addresses = all_none few_addresses }
few (Occurrences.more {before} {es} {e = Name n} d s) = one_more before es (Name n) (λ h. omega arith) (λ h. omega arith) refl (few s)
few (Occurrences.more {before} {es} {e = Protocol p} d s) = one_more before es (Protocol p) (λ h. omega arith) (λ h. omega arith) refl (few s)
few (Occurrences.more {before} {es} {e = Flow f} d s) = one_more before es (Flow f) (λ h. omega arith) (λ h. omega arith) refl (few s)
few (Occurrences.more {before} {es} {e = Test it al} d s) =
    let n = neither (ltb max_addresses (length al)) (leb max_tests (count is_test before))
    (refuse_fine (ltb max_addresses (length al) || leb max_tests (count is_test before)) refusal.CountExceeded (Ok tt) d).0 in
    one_more before es (Test it al) (λ h. omega (arith, leb-false max_tests (count is_test before) n.1)) (λ h. omega arith)
    (le-leb (length al) max_addresses (ltb-false max_addresses (length al) n.0)) (few s)
few (Occurrences.more {before} {es} {e = Pattern n b} d s) =
    one_more before es (Pattern n b) (λ h. omega arith)
    (λ h. omega (
      arith,
      leb-false max_patterns (count is_pattern before)
          (refuse_fine (leb max_patterns (count is_pattern before)) refusal.CountExceeded (Ok tt) d).0,
    )) refl (few s)
few (Occurrences.more {before} {es} {e = Modified m} d s) = one_more before es (Modified m) (λ h. omega arith) (λ h. omega arith) refl (few s)

module _ (es : List OptionValue) (s : Occurrences [] es) where
  pub few_tests : count is_test es ≤ max_tests
  unfolding keep
  few_tests = omega (arith, (few s).tests (omega arith))

  pub few_patterns : count is_pattern es ≤ max_patterns
  unfolding keep
  few_patterns = omega (arith, (few s).patterns (omega arith))

  pub few_addresses_lem : all? few_addresses es ≡ true
  few_addresses_lem = (few s).addresses

-- a slot for each test and each pattern
pub slots_counted : (es : List OptionValue) → length (slots_in es) ≡ count is_test es + count is_pattern es
unfolding slots_in keep
slots_counted [] = refl
slots_counted (Name n ∷ es) = slots_counted es
slots_counted (Protocol p ∷ es) = slots_counted es
slots_counted (Flow f ∷ es) = slots_counted es
slots_counted (Test it al ∷ es) = omega (arith, slots_counted es)
slots_counted (Pattern n b ∷ es) = omega (arith, slots_counted es)
slots_counted (Modified m ∷ es) = slots_counted es
