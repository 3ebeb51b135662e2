-- What a hex digit writes: its last four bits, and nine more if it is a letter; and so two digits side by side in one number.
use mathlib.Core.Path.{◌≡◌}
use mathlib.Core.Bool.{true, false≢true, ◌||◌, or_assoc}
use Prim.Native.Nat.{ℕ, ◌+◌, ◌*◌, ◌/◌, ◌%◌, ◌≤◌}
use native.Mathlib.Omega.{arith}
use lib.Dec.{leb}
use borrow.Author.Tests.{le-leb, lt-leb, leb-true}
use Rattle.forms.specs.Bytes.{between}
use Rattle.forms.specs.Form.{has}
use Rattle.forms.proofs.Bools.{by_cases, both_left, both_right, or-false}
use Rattle.definitions.specs.Numbers.{hex_digits, digit_value}

pub hex_ranges : (b : ℕ) → ((between 48 57 b || between 65 70 b) || between 97 102 b) ≡ has hex_digits b
unfolding has
hex_ranges b = rw (or-false (between 97 102 b)) (or_assoc (between 48 57 b) (between 65 70 b) (between 97 102 b))

module _ {A : Type 0} (b : ℕ) where
  in_range : (low high : ℕ) → (low ≤ b → b ≤ high → A) → between low high b ≡ true → A
  in_range low high f t = f (leb-true low b (both_left (leb low b) (leb b high) t)) (leb-true b high (both_right (leb low b) (leb b high) t))

  hex_cases : has hex_digits b ≡ true → (48 ≤ b → b ≤ 57 → A) → (65 ≤ b → b ≤ 70 → A) → (97 ≤ b → b ≤ 102 → A) → A
  unfolding has
  hex_cases e digit capital small =
      by_cases (between 48 57 b)
      (in_range 48 57 digit)
      (λ f.
      by_cases (between 65 70 b)
      (in_range 65 70 capital)
      (λ g. by_cases (between 97 102 b) (in_range 97 102 small) (λ h. absurd (false≢true (rw (f, g, h) at e)))))

module _ (b : ℕ) (e : has hex_digits b ≡ true) where
  pub hex_high : b ≤ 102
  hex_high = hex_cases b e (λ l h. omega (arith, h)) (λ l h. omega (arith, h)) (λ l h. h)

  digit_bits : digit_value b ≡ b % 16 + b / 64 * 9
  unfolding digit_value
  digit_bits =
      hex_cases b e
      (λ l h. rw (le-leb b 57 h) (omega (arith, l, h)))
      (λ l h. rw (lt-leb b 57 (omega (arith, l)), le-leb b 70 h) (omega (arith, l, h)))
      (λ l h. rw (lt-leb b 57 (omega (arith, l)), lt-leb b 70 (omega (arith, l))) (omega (arith, l, h)))

  digit_small : digit_value b ≤ 15
  digit_small = hex_cases b e (λ l h. omega (arith, digit_bits, l, h)) (λ l h. omega (arith, digit_bits, l, h)) (λ l h. omega (arith, digit_bits, l, h))

-- what the digits in both halves of a number write, side by side, and the byte of them: as the code has it
abbrev pub two_digits : ℕ → ℕ
two_digits w = w % 16 + w / 256 % 16 * 256 + (w / 64 % 4 + w / 16384 * 256) * 9

abbrev pub two_byte : ℕ → ℕ
two_byte w = two_digits w % 256 * 16 + two_digits w / 256

by_halves : (a b c d : ℕ) → a + b * 256 + (c + d * 256) * 9 ≡ (a + c * 9) + (b + d * 9) * 256
by_halves a b c d = omega arith

module _ (w : ℕ) where
  first_bits : w % 16 ≡ w % 256 % 16
  first_bits = omega arith

  first_letter : w / 64 % 4 ≡ w % 256 / 64
  first_letter = omega arith

  second_letter : w / 16384 ≡ w / 256 / 64
  second_letter = omega arith

  halves : two_digits w ≡ (w % 256 % 16 + w % 256 / 64 * 9) + (w / 256 % 16 + w / 256 / 64 * 9) * 256
  halves = rw (first_bits, first_letter, second_letter) (by_halves (w % 256 % 16) (w / 256 % 16) (w % 256 / 64) (w / 256 / 64))

module _ (w : ℕ) (first : has hex_digits (w % 256) ≡ true) (second : has hex_digits (w / 256) ≡ true) where
  side_by_side : two_digits w ≡ digit_value (w % 256) + digit_value (w / 256) * 256
  side_by_side = omega (arith, halves w, digit_bits (w % 256) first, digit_bits (w / 256) second)

  pub byte_is : two_byte w ≡ digit_value (w % 256) * 16 + digit_value (w / 256)
  byte_is = omega (arith, side_by_side, digit_small (w % 256) first, digit_small (w / 256) second)

  pub byte_fits : two_byte w ≤ 255
  byte_fits = omega (arith, byte_is, digit_small (w % 256) first, digit_small (w / 256) second)
