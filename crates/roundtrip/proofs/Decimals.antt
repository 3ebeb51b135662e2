-- A number in decimal digits without leading zeros is of the forms of numbers, with its own value. By induction on how many digits are enough.
use mathlib.Core.Path.{◌≡◌, refl, sym, ap, ◌∙◌}
use mathlib.Core.Bool.{Bool, true}
use mathlib.Core.List.{List, [], ◌∷◌, ◌++◌}
use Prim.Native.Nat.{ℕ, zero, suc, ◌+◌, ◌*◌, ◌/◌, ◌%◌, ◌≤◌, ◌<◌}
use native.Mathlib.Omega.{arith}
use native.Mathlib.Nat.{le_refl}
use lib.ListN.{length, length-append}
use lib.Dec.{ltb, leb}
use borrow.Author.Tests.{le-leb, lt-ltb, ltb-true, ltb-false}
use Rattle.forms.specs.Form.{has, none}
use Rattle.forms.proofs.Bools.{by_cases}
use Rattle.definitions.specs.Lists.{all?}
use Rattle.definitions.specs.Numbers.{decimal_digits, digit_value, value_of, number_that, number, either_base, numeral}
use Rattle.definitions.specs.Canonical.{digits_of, decimal}
use Rattle.roundtrip.proofs.AllTests.{all_none, all_more, all_append}
use Rattle.roundtrip.proofs.Making.{Of, retexts, revalues, fmap_of, bound_of, preceded_of, both_of, alt_left, alt_right, many_of, literal_of}
use Rattle.roundtrip.proofs.Making.{is_byte_lem, byte_row, some_bytes}

-- ---- digits

digit_has : (low d : ℕ) → low ≤ 48 + d → d ≤ 9 → has ((low, 57) ∷ []) (48 + d) ≡ true
unfolding has
digit_has low d g h = rw (le-leb low (48 + d) g, le-leb (48 + d) 57 (omega (arith, h)))

digit_value_lem : (d : ℕ) → d ≤ 9 → digit_value (48 + d) ≡ d
unfolding digit_value
digit_value_lem d h = rw (le-leb (48 + d) 57 (omega (arith, h))) (omega arith)

digits_are : (k n : ℕ) → all? (has decimal_digits) (digits_of k n) ≡ true
unfolding digits_of
digits_are zero n = all_none (has decimal_digits)
digits_are (suc k) n =
    by_cases (ltb n 10)
    (λ t. rw t (all_more (has decimal_digits) (48 + n) [] (digit_has 48 n (omega arith) (omega (arith, ltb-true n 10 t))) (all_none (has decimal_digits))))
    (λ t. rw t (all_append (has decimal_digits) (digits_of k (n / 10)) ((48 + n % 10) ∷ []) (digits_are k (n / 10))
    (all_more (has decimal_digits) (48 + n % 10) [] (digit_has 48 (n % 10) (omega arith) (omega arith)) (all_none (has decimal_digits)))))

value_end : (a x : ℕ) (xs : List ℕ) → value_of 10 a (xs ++ (x ∷ [])) ≡ value_of 10 a xs * 10 + digit_value x
unfolding value_of
value_end a x [] = refl
value_end a x (y ∷ xs) = value_end (a * 10 + digit_value y) x xs

digits_value : (k n : ℕ) → n ≤ k → value_of 10 0 (digits_of (suc k) n) ≡ n
unfolding digits_of value_of
digits_value zero n h =
    let t : ltb n 10 ≡ true = lt-ltb n 10 (omega (arith, h)) in
    rw t (rw (digit_value_lem n (omega (arith, h))) (omega arith))
digits_value (suc k) n h =
    by_cases (ltb n 10)
    (λ t. rw t (rw (digit_value_lem n (omega (arith, ltb-true n 10 t))) (omega arith)))
    (λ t. rw t (value_end 0 (48 + n % 10) (digits_of (suc k) (n / 10))
    ∙ rw (digits_value k (n / 10) (omega (arith, h, ltb-false n 10 t)), digit_value_lem (n % 10) (omega arith)) (omega arith)))

digits_some : (k n : ℕ) → 1 ≤ length (digits_of (suc k) n)
unfolding digits_of
digits_some k n = by_cases (ltb n 10) (λ t. rw t (omega arith)) (λ t. rw t (omega (arith, length-append (digits_of k (n / 10)) ((48 + n % 10) ∷ []))))

-- ---- decimal numbers

pub number_that_of : (kept : ℕ → Bool) (n : ℕ) → kept n ≡ true → Of (number_that kept) (decimal n) n
number_that_of kept n t =
    bound_of t (revalues (digits_value n n (le_refl n)) (fmap_of (some_bytes decimal_digits (decimal n) (digits_some n n) (digits_are (suc n) n))))

pub number_of : (limit n : ℕ) → leb n limit ≡ true → Of (number limit) (decimal n) n
number_of limit n t = number_that_of (λ (k : ℕ). leb k limit) n t

-- ---- in either base: a first digit other than 0, or 0 alone

abbrev Led : List ℕ → Type 0
Led l = (b : ℕ) × (m : List ℕ) × (l ≡ b ∷ m) × (has ((49, 57) ∷ []) b ≡ true) × (all? (has decimal_digits) m ≡ true)

led_append : (l : List ℕ) (x : ℕ) → has decimal_digits x ≡ true → Led l → Led (l ++ (x ∷ []))
led_append l x h d = (
  d.0,
  d.1 ++ (x ∷ []),
  ap (λ z. z ++ (x ∷ [])) d.2,
  d.3,
  all_append (has decimal_digits) d.1 (x ∷ []) d.4
      (all_more (has decimal_digits) x [] h (all_none (has decimal_digits))),
)

led_one : (n : ℕ) → 1 ≤ n → n < 10 → Led ((48 + n) ∷ [])
led_one n g h = (48 + n, [], refl, digit_has 49 n (omega (arith, g)) (omega (arith, h)), all_none (has decimal_digits))

digits_led : (k n : ℕ) → 1 ≤ n → n ≤ k → Led (digits_of (suc k) n)
unfolding digits_of
digits_led zero n g h = absurd (omega (arith, g, h))
digits_led (suc k) n g h =
    by_cases (ltb n 10)
    (λ t. rw t (led_one n g (ltb-true n 10 t)))
    (λ t. let u = ltb-false n 10 t in
    rw t (led_append (digits_of (suc k) (n / 10)) (48 + n % 10) (digit_has 48 (n % 10) (omega arith) (omega arith))
    (digits_led k (n / 10) (omega (arith, u)) (omega (arith, u, h)))))

either_of : (n : ℕ) → Of either_base (decimal n) (0, n)
unfolding digits_of value_of
either_of zero = alt_left (preceded_of (literal_of 48) (alt_right (fmap_of {h = λ (l : List ℕ). (0, value_of 10 0 l)} (many_of none))))
either_of (suc n) =
    let d = digits_led (suc n) (suc n) (omega arith) (le_refl (suc n)) in
    let v : value_of 10 0 (d.0 ∷ d.1) ≡ suc n = ap (value_of 10 0) (sym d.2) ∙ digits_value (suc n) (suc n) (le_refl (suc n)) in
    alt_right (retexts (sym d.2)
    (revalues (ap (λ i. (0, i)) v)
    (fmap_of {h = λ (p : ℕ × List ℕ). (0, value_of 10 0 (p.0 ∷ p.1))} (both_of (is_byte_lem d.3) (many_of (byte_row decimal_digits d.1 d.4))))))

pub numeral_of : (limit n : ℕ) → leb n limit ≡ true → Of (numeral limit) (decimal n) n
numeral_of limit n t = fmap_of {h = λ (p : ℕ × ℕ). p.1} {a = (0, n)} (bound_of t (either_of n))
