-- What the answer for a number tells of the bytes.
use Rattle.std.specs.Prelude.{Some, None}
use mathlib.Core.Path.{◌≡◌, sym}
use mathlib.Core.Bool.{true, false, false≢true}
use mathlib.Core.List.{List}
use Prim.Native.Nat.{ℕ}
use Rattle.definitions.specs.Numbers.{value_of, is_number}
use Rattle.line_parts.proofs.Results.{failed_test, parsed_test, parsed_value}
use Rattle.line_numbers.specs.Decimals.{parsed_number}

apart : (v : ℕ) → Some v ≡ None → ⊥
apart v e = false≢true cc

same : (v w : ℕ) → Some v ≡ Some w → v ≡ w
same v w e = cc

module _ (limit : ℕ) (l : List ℕ) where
  pub failed_number : parsed_number limit l ≡ None → is_number limit l ≡ false
  unfolding parsed_number
  failed_number e = failed_test Some None apart (is_number limit l) (value_of 10 0 l) e

  module _ (v : ℕ) (e : parsed_number limit l ≡ Some v) where
    pub parsed_number_lem : is_number limit l ≡ true
    unfolding parsed_number
    parsed_number_lem = parsed_test Some None apart (is_number limit l) (value_of 10 0 l) v e

    pub number_value : v ≡ value_of 10 0 l
    unfolding parsed_number
    number_value = sym (parsed_value Some None apart same (is_number limit l) (value_of 10 0 l) v e)
