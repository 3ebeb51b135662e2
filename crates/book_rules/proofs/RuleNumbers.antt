-- A rule's number: a number of 16 bits whose first digit is not 0; and what the answer for it tells of the bytes.
use Rattle.std.specs.Prelude.{Some, None}
use Rattle.std.specs.Cmp.Lexicographic.{pointwise}
use mathlib.Core.Path.{◌≡◌, refl, sym}
use mathlib.Core.Bool.{true, false, not, false≢true, and-false}
use mathlib.Core.List.{List, [], ◌∷◌}
use Prim.Native.Nat.{ℕ, ◌≤◌}
use native.Mathlib.Omega.{arith}
use lib.ListN.{length, get_or, take}
use lib.Dec.{eqb}
use borrow.Author.Tests.{eq-eqb, ne_eqb, eqb-true, eqb-false}
use Rattle.forms.proofs.Bools.{by_cases, both_left}
use Rattle.definitions.specs.Limits.{max_word}
use Rattle.definitions.specs.Numbers.{value_of, is_number}
use Rattle.definitions.specs.Books.{is_rule_number}
use Rattle.line_parts.proofs.Results.{failed_test, parsed_test, parsed_value}
use Rattle.line_numbers.specs.Decimals.{parsed_number}
use Rattle.line_numbers.proofs.Digits.{number_le}
use Rattle.book_rules.specs.RuleLines.{parsed_rule_number}

-- ---- the code's two ways

pub begins_zero : (s : List ℕ) → pointwise eqb (48 ∷ []) (take 1 s) ≡ eqb (get_or s 0 0) 48
begins_zero [] = refl
begins_zero (b ∷ s) =
    by_cases (eqb b 48)
    (λ t. rw (t, eq-eqb 48 b (sym (eqb-true b 48 t))))
    (λ f. rw (f, ne_eqb 48 b (λ e. eqb-false b 48 f (sym e))))

-- no byte is no number of a rule
pub empty_number : (s : List ℕ) → length s ≡ 0 → None ≡ parsed_rule_number s
unfolding parsed_rule_number is_rule_number is_number
empty_number [] e = refl
empty_number (b ∷ s) e = absurd (omega (arith, e))

module _ (s : List ℕ) where
  pub zero_number : get_or s 0 0 ≡ 48 → None ≡ parsed_rule_number s
  unfolding parsed_rule_number is_rule_number
  zero_number e = rw (eq-eqb (get_or s 0 0) 48 e, and-false (is_number max_word s))

  pub other_number : (get_or s 0 0 ≡ 48 → ⊥) → parsed_number max_word s ≡ parsed_rule_number s
  unfolding parsed_number parsed_rule_number is_rule_number
  other_number n = rw (ne_eqb (get_or s 0 0) 48 n) (by_cases (is_number max_word s) (λ t. rw t) (λ f. rw f))

-- ---- what the answer tells

apart : (v : ℕ) → Some v ≡ None → ⊥
apart v e = false≢true cc

same : (v w : ℕ) → Some v ≡ Some w → v ≡ w
same v w e = cc

module _ (s : List ℕ) where
  pub failed_number : parsed_rule_number s ≡ None → is_rule_number s ≡ false
  unfolding parsed_rule_number
  failed_number e = failed_test Some None apart (is_rule_number s) (value_of 10 0 s) e

  module _ (v : ℕ) (e : parsed_rule_number s ≡ Some v) where
    pub parsed_number_lem : is_rule_number s ≡ true
    unfolding parsed_rule_number
    parsed_number_lem = parsed_test Some None apart (is_rule_number s) (value_of 10 0 s) v e

    pub number_value : value_of 10 0 s ≡ v
    unfolding parsed_rule_number
    number_value = parsed_value Some None apart same (is_rule_number s) (value_of 10 0 s) v e

    -- it fits 16 bits
    pub number_fits_lem : v ≤ max_word
    unfolding is_rule_number
    number_fits_lem =
        omega (arith, number_value, number_le max_word s (both_left (is_number max_word s) (not (eqb (get_or s 0 0) 48)) parsed_number_lem))
