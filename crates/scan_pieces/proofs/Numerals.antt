-- A numeral is what a run of hex digits is after `0x`, and else what a decimal number is.
use mathlib.Core.Path.{◌≡◌, refl, sym, ap, ◌∙◌}
use mathlib.Core.Bool.{Bool, true, false}
use mathlib.Core.List.{List, [], ◌∷◌}
use Prim.Native.Nat.{ℕ, ◌+◌, ◌-◌, ◌≤◌}
use native.Mathlib.Omega.{arith}
use lib.ListN.{length, drop, get_or, length-drop}
use lib.Dec.{leb, ltb, eqb}
use borrow.Author.Tests.{eqb-true, eqb-false, ltb-true, ltb-false, le-leb, lt-leb, leb-true, leb-false}
use Rattle.forms.specs.Form.{Class, Form, byte, many, fmap, has}
use Rattle.forms.specs.Scan.{begins}
use Rattle.forms.specs.Place.{Read, Parsed, OutOfRange, Failed, read_at, map_read, both_read, bounded}
use Rattle.forms.specs.Pieces.{preceded, some}
use Rattle.forms.proofs.Bools.{by_cases, both_left, both_right}
use Rattle.forms.proofs.At.{alt_at, preceded_at, fmap_at, pair_at, bound_at, byte_at, byte_end, mapped_both}
use Rattle.definitions.specs.Numbers.{decimal_digits, hex_digits, digit_value, value_of, number, either_base, numeral}
use Rattle.scan_pieces.specs.Digits.{digits_within, hex_prefixed}
use Rattle.scan_cursors.specs.declared.Cursor.{Cursor}
use Rattle.scan_cursors.specs.declared.Cursor.TheVariants as cursor
use Rattle.scan_cursors.specs.Reads.{Reads}
use Rattle.scan_pieces.proofs.AtPlace.{begins_at, begins_in, has_one}

-- the byte `0`, then `x` or `X`
abbrev zero_literal : List (ℕ × ℕ)
zero_literal = (48, 48) ∷ []

abbrev x_literal : List (ℕ × ℕ)
x_literal = (120, 120) ∷ (88, 88) ∷ []

-- a byte of a class that stands there
stood : (c : List (ℕ × ℕ)) (s : List ℕ) (at : ℕ) → begins c (drop at s) ≡ true → read_at (byte c) s at ≡ Parsed (get_or s at 0) (at + 1)
stood c s at e = let h = begins_in c s at e in byte_at c s at h ∙ rw (sym (begins_at c s at h) ∙ e)

mapped_id : {A : Type 0} (r : Read A) → map_read (λ (y : A). y) r ≡ r
mapped_id (Parsed a n) = refl
mapped_id (OutOfRange p n) = refl
mapped_id (Failed p) = refl

mapped_twice : {A B C : Type 0} (h : B → C) (g : A → B) (r : Read A) → map_read h (map_read g r) ≡ map_read (λ (a : A). h (g a)) r
mapped_twice h g (Parsed a n) = refl
mapped_twice h g (OutOfRange p n) = refl
mapped_twice h g (Failed p) = refl

-- a digit but zero
no_zero : (b : ℕ) → eqb b 48 ≡ false → has ((49, 57) ∷ []) b ≡ has decimal_digits b
unfolding has
no_zero b e =
    let n = eqb-false b 48 e in
    by_cases (leb 49 b)
    (λ t. rw (t, le-leb 48 b (omega (arith, leb-true 49 b t))))
    (λ t. rw (t, lt-leb 48 b (omega (arith, leb-false 49 b t, n))))

preceded_begun : {A : Type 0} (c : List (ℕ × ℕ)) (g : Form A) (s : List ℕ) (at : ℕ) → begins c (drop at s) ≡ true
    → read_at (preceded (byte c) g) s at ≡ read_at g s (at + 1)
preceded_begun c g s at e =
    let h = begins_in c s at e in
    preceded_at (byte c) g s at (omega arith) ∙ rw (stood c s at e) (mapped_id (read_at g s (at + 1)))

-- decimal digits, with how many bytes stand before them
abbrev plainly : List ℕ → ℕ × ℕ
plainly l = (0, value_of 10 0 l)

abbrev joined : ℕ × List ℕ → List ℕ
joined p = p.0 ∷ p.1

-- a leading zero changes no number
led_by_zero : (X : Read (List ℕ)) → map_read plainly (map_read (λ (l : List ℕ). 48 ∷ l) X) ≡ map_read plainly X
unfolding value_of digit_value
led_by_zero (Parsed l n) = refl
led_by_zero (OutOfRange p n) = refl
led_by_zero (Failed p) = refl

-- ---- the digits

module _ (s : List ℕ) (at : ℕ) where
  either_hex : begins zero_literal (drop at s) ≡ true → begins x_literal (drop (at + 1) s) ≡ true
      → read_at either_base s at ≡ map_read (λ (l : List ℕ). (2, value_of 16 0 l)) (read_at (some (byte hex_digits)) s (at + 2))
  either_hex z x =
      let e : at + 1 + 1 ≡ at + 2 = omega arith in
      alt_at _ _ s at
      ∙ rw z (preceded_begun zero_literal _ s at z ∙ alt_at _ _ s (at + 1)
      ∙ rw x (preceded_begun x_literal _ s (at + 1) x ∙ fmap_at _ _ s (at + 1 + 1) ∙ rw e))

  abbrev digits : ℕ → Read (List ℕ)
  digits n = read_at (many (byte decimal_digits)) s n

  -- one digit, and the rest
  some_at : at ≤ length s
      → read_at (some (byte decimal_digits)) s at ≡ both_read (λ (b : ℕ) (l : List ℕ). b ∷ l) (read_at (byte decimal_digits) s at) digits
  some_at h =
      fmap_at _ _ s at ∙ ap (map_read joined) (pair_at (byte decimal_digits) (many (byte decimal_digits)) s at h)
      ∙ mapped_both joined (read_at (byte decimal_digits) s at) digits

  zero_digit : begins zero_literal (drop at s) ≡ true → get_or s at 0 ≡ 48
  zero_digit z = let h = begins_in zero_literal s at z in eqb-true _ _ (sym (has_one 48 (get_or s at 0)) ∙ sym (begins_at zero_literal s at h) ∙ z)

  either_zero : begins zero_literal (drop at s) ≡ true → begins x_literal (drop (at + 1) s) ≡ false
      → read_at either_base s at ≡ map_read plainly (read_at (some (byte decimal_digits)) s at)
  unfolding has
  either_zero z x =
      let h = begins_in zero_literal s at z in
      let d : read_at (byte decimal_digits) s at ≡ Parsed 48 (at + 1) = byte_at decimal_digits s at h ∙ rw (zero_digit z) in
      let e = some_at (omega arith) ∙ ap (λ (X : Read ℕ). both_read (λ (b : ℕ) (l : List ℕ). b ∷ l) X digits) d in
      alt_at _ _ s at
      ∙ rw z (preceded_begun zero_literal _ s at z ∙ alt_at _ _ s (at + 1)
      ∙ rw x (fmap_at _ _ s (at + 1) ∙ sym (ap (map_read plainly) e ∙ led_by_zero (digits (at + 1)))))

  -- a digit that is no zero, or no digit at all
  other_digit : at ≤ length s → begins zero_literal (drop at s) ≡ false → read_at (byte ((49, 57) ∷ [])) s at ≡ read_at (byte decimal_digits) s at
  other_digit h z =
      by_cases (ltb at (length s))
      (λ t.
      let g = ltb-true at (length s) t in
      let n = no_zero (get_or s at 0) (sym (has_one 48 (get_or s at 0)) ∙ sym (begins_at zero_literal s at g) ∙ z) in
      byte_at ((49, 57) ∷ []) s at g ∙ rw n (sym (byte_at decimal_digits s at g)))
      (λ t.
      let e : at ≡ length s = omega (arith, ltb-false at (length s) t) in
      rw e (byte_end ((49, 57) ∷ []) s ∙ sym (byte_end decimal_digits s)))

  either_other : at ≤ length s → begins zero_literal (drop at s) ≡ false
      → read_at either_base s at ≡ map_read plainly (read_at (some (byte decimal_digits)) s at)
  either_other h z =
      let of : ℕ × List ℕ → ℕ × ℕ = λ p. (0, value_of 10 0 (p.0 ∷ p.1)) in
      let X : Read ℕ = read_at (byte decimal_digits) s at in
      let two : Read ℕ → Read (ℕ × List ℕ) = λ (Y : Read ℕ). both_read (λ (b : ℕ) (l : List ℕ). (b, l)) Y digits in
      let one = pair_at (byte ((49, 57) ∷ [])) (many (byte decimal_digits)) s at h ∙ ap two (other_digit h z) in
      let all = fmap_at _ _ s at ∙ ap (map_read joined) (pair_at (byte decimal_digits) (many (byte decimal_digits)) s at h) in
      alt_at _ _ s at
      ∙ rw z (fmap_at of _ s at ∙ ap (map_read of) one ∙ mapped_both of X digits
      ∙ sym (ap (map_read plainly) all ∙ mapped_twice plainly joined (two X) ∙ mapped_both of X digits))

-- ---- the number

-- where a broken bound is placed, after the first k bytes
abbrev after : List ℕ → ℕ → ℕ → ℕ
after s at k = length s - length (drop k (drop at s))

abbrev within : ℕ → ℕ × ℕ → Bool
within limit p = leb p.1 limit

-- bounds of the numeral and of its digits, over any reading of digits
same_bound : (limit : ℕ) (s : List ℕ) (at here base k : ℕ) (X : Read (List ℕ)) → here ≡ at + k → here ≤ length s
    → map_read (λ (p : ℕ × ℕ). p.1) (bounded (within limit) (λ (p : ℕ × ℕ). after s at p.0) (map_read (λ (l : List ℕ). (k, value_of base 0 l)) X))
    ≡ bounded (λ (n : ℕ). leb n limit) (λ (n : ℕ). after s here 0) (map_read (value_of base 0) X)
same_bound limit s at here base k (Parsed l n) e h =
    let q : after s at k ≡ after s here 0 = omega (arith, length-drop k (drop at s), length-drop at s, length-drop here s, h, e) in
    by_cases (leb (value_of base 0 l) limit) (λ t. rw t) (λ t. rw (t, q))
same_bound limit s at here base k (OutOfRange p n) e h = refl
same_bound limit s at here base k (Failed p) e h = refl

numeral_is : (limit : ℕ) (s : List ℕ) (at here k : ℕ) (c : Class) (base : ℕ) → here ≡ at + k → here ≤ length s
    → read_at either_base s at ≡ map_read (λ (l : List ℕ). (k, value_of base 0 l)) (read_at (some (byte c)) s here)
    → read_at (numeral limit) s at ≡ read_at (digits_within c base limit) s here
numeral_is limit s at here k c base e h x =
    let left = bound_at _ _ either_base s at ∙ ap (bounded (within limit) (λ (p : ℕ × ℕ). after s at p.0)) x in
    let right =
    bound_at (λ (n : ℕ). leb n limit) (λ (n : ℕ). 0) (fmap (value_of base 0) (some (byte c))) s here
    ∙ ap (bounded (λ (n : ℕ). leb n limit) (λ (n : ℕ). after s here 0)) (fmap_at (value_of base 0) (some (byte c)) s here) in
    fmap_at _ _ s at ∙ ap (map_read (λ (p : ℕ × ℕ). p.1)) left ∙ same_bound limit s at here base k (read_at (some (byte c)) s here) e h ∙ sym right

pub hex_inside : (s : List ℕ) (at : ℕ) → hex_prefixed s at ≡ true → at + 2 ≤ length s
hex_inside s at e = omega (arith, begins_in x_literal s (at + 1) (both_right (begins zero_literal (drop at s)) (begins x_literal (drop (at + 1) s)) e))

module _ (limit : ℕ) {s : List ℕ} {at : ℕ} {v : ℕ} {d : Cursor} where
  pub hex_reads : hex_prefixed s at ≡ true → Reads (digits_within hex_digits 16 limit) s (cursor.Parsed (at + 2)) v d
      → Reads (numeral limit) s (cursor.Parsed at) v d
  hex_reads e r =
      let z = both_left (begins zero_literal (drop at s)) (begins x_literal (drop (at + 1) s)) e in
      let x = both_right (begins zero_literal (drop at s)) (begins x_literal (drop (at + 1) s)) e in
      let q = numeral_is limit s at (at + 2) 2 hex_digits 16 refl (hex_inside s at e) (either_hex s at z x) in
      record { reads = r.reads ∙ sym q; inside = r.inside }

  pub decimal_reads : at ≤ length s → hex_prefixed s at ≡ false → Reads (number limit) s (cursor.Parsed at) v d → Reads (numeral limit) s (cursor.Parsed at) v d
  decimal_reads h e r =
      let q : at ≡ at + 0 = omega arith in
      let w : read_at either_base s at ≡ map_read plainly (read_at (some (byte decimal_digits)) s at) =
      by_cases (begins zero_literal (drop at s)) (λ z. either_zero s at z (rw z at e)) (λ z. either_other s at h z) in
      record { reads = r.reads ∙ sym (numeral_is limit s at at 0 decimal_digits 10 q h w); inside = r.inside }
