-- A decimal number up to a limit, digit by digit: it fails at a byte that is no digit, and where the digits so far pass the limit.
use Rattle.std.specs.Prelude.{Some, None}
use mathlib.Core.Path.{◌≡◌, refl, sym, ap, ◌∙◌}
use mathlib.Core.Bool.{true, false, not, ◌&&◌, and-false}
use mathlib.Core.List.{List, [], ◌∷◌}
use Prim.Native.Nat.{ℕ, suc, ◌+◌, ◌-◌, ◌*◌, ◌≤◌, ◌<◌}
use native.Mathlib.Omega.{arith}
use native.Mathlib.Numerals.{add-one}
use lib.ListN.{length, get_or, drop, drop_of_length-le}
use lib.Seq.{drop-cons}
use lib.Dec.{leb}
use borrow.Author.Tests.{le-leb, lt-leb, leb-true}
use Rattle.forms.specs.Bytes.{between}
use Rattle.forms.specs.Form.{has}
use Rattle.forms.proofs.Bools.{both_right, or-false}
use Rattle.definitions.specs.Lists.{all?, none?}
use Rattle.definitions.specs.Numbers.{decimal_digits, digit_value, value_of, is_number}
use Rattle.line_numbers.specs.Decimals.{parsed_number}

-- ---- one digit

digit_between : (b : ℕ) → has decimal_digits b ≡ between 48 57 b
unfolding has
digit_between b = or-false (between 48 57 b)

module _ (b : ℕ) (t : between 48 57 b ≡ true) where
  pub digit_high : b ≤ 57
  digit_high = leb-true b 57 (both_right (leb 48 b) (leb b 57) t)

  digit_value_lem : digit_value b ≡ b - 48
  unfolding digit_value
  digit_value_lem = rw (both_right (leb 48 b) (leb b 57) t)

-- digits that follow make a number no smaller
grows : (a : ℕ) (l : List ℕ) → a ≤ value_of 10 a l
unfolding value_of
grows a [] = omega arith
grows a (b ∷ l) = omega (arith, grows (a * 10 + digit_value b) l)

-- ---- each way in which bytes are no number

module _ (limit : ℕ) where
  not_number : (l : List ℕ) → is_number limit l ≡ false → None ≡ parsed_number limit l
  unfolding parsed_number
  not_number l e = rw e

  pub no_digits : (l : List ℕ) → length l ≡ 0 → None ≡ parsed_number limit l
  unfolding is_number
  no_digits [] e = not_number [] refl
  no_digits (b ∷ l) e = absurd (omega (arith, e))

  other_byte : (l : List ℕ) → all? (has decimal_digits) l ≡ false → None ≡ parsed_number limit l
  unfolding is_number
  other_byte [] e = not_number [] refl
  other_byte (b ∷ l) e = not_number (b ∷ l) (rw e)

  too_large : (l : List ℕ) → limit < value_of 10 0 l → None ≡ parsed_number limit l
  unfolding is_number
  too_large [] h = not_number [] refl
  too_large (b ∷ l) h = not_number (b ∷ l) (rw (lt-leb (value_of 10 0 (b ∷ l)) limit h) (and-false (all? (has decimal_digits) (b ∷ l))))

-- ---- the loop: what is still to come after i digits that wrote v

pub record Kept (limit : ℕ) (s : List ℕ) (v i : ℕ) : Type 0 where
  pub some : none? s ≡ false
  pub place : i ≤ length s
  pub small : v ≤ limit
  pub sum : value_of 10 0 s ≡ value_of 10 v (drop i s)
  pub digits : all? (has decimal_digits) s ≡ all? (has decimal_digits) (drop i s)

module _ (limit : ℕ) (s : List ℕ) (v i : ℕ) (k : Kept limit s v i) (h : i < length s) where
  pub kept_byte : between 48 57 (get_or s i 0) ≡ false → None ≡ parsed_number limit s
  unfolding all?
  kept_byte f = other_byte limit s (k.digits ∙ rw (drop-cons s i 0 h, digit_between (get_or s i 0) ∙ f))

  module _ (t : between 48 57 (get_or s i 0) ≡ true) where
    step : value_of 10 v (drop i s) ≡ value_of 10 (v * 10 + (get_or s i 0 - 48)) (drop (i + 1) s)
    unfolding value_of
    step =
        ap (λ (l : List ℕ). value_of 10 v l) (drop-cons s i 0 h)
        ∙ ap (λ (d : ℕ). value_of 10 (v * 10 + d) (drop (suc i) s)) (digit_value_lem (get_or s i 0) t)
        ∙ ap (λ (j : ℕ). value_of 10 (v * 10 + (get_or s i 0 - 48)) (drop j s)) (sym (add-one i))

    pub kept_large : limit < v * 10 + (get_or s i 0 - 48) → None ≡ parsed_number limit s
    kept_large g = too_large limit s (omega (arith, g, k.sum, step, grows (v * 10 + (get_or s i 0 - 48)) (drop (i + 1) s)))

    pub kept_on : v * 10 + (get_or s i 0 - 48) ≤ limit → Kept limit s (v * 10 + (get_or s i 0 - 48)) (i + 1)
    unfolding all?
    kept_on g =
        record {
          some = k.some;
          place = omega (arith, h);
          small = g;
          sum = k.sum ∙ step;
          digits = k.digits ∙ rw (drop-cons s i 0 h, digit_between (get_or s i 0) ∙ t, add-one);
        }

pub kept_out : (limit : ℕ) (s : List ℕ) (v i : ℕ) → Kept limit s v i → length s ≤ i → Some v ≡ parsed_number limit s
unfolding parsed_number is_number all? value_of
kept_out limit s v i k h =
    let l : drop i s ≡ [] = drop_of_length-le s h in
    let value : value_of 10 0 s ≡ v = k.sum ∙ ap (λ (x : List ℕ). value_of 10 v x) l in
    let digits : all? (has decimal_digits) s ≡ true = k.digits ∙ ap (λ (x : List ℕ). all? (has decimal_digits) x) l in
    rw (k.some, digits, value, le-leb v limit k.small)

-- ---- the whole

-- a number up to a limit is no more than it
pub number_le : (limit : ℕ) (l : List ℕ) → is_number limit l ≡ true → value_of 10 0 l ≤ limit
unfolding is_number
number_le limit l t =
    let few = leb (value_of 10 0 l) limit in
    let digits = all? (has decimal_digits) l in
    leb-true (value_of 10 0 l) limit (both_right digits few (both_right (not (none? l)) (digits && few) t))
