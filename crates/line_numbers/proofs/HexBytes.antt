-- The bytes that pairs of hex digits write: the byte of each pair, and what a lent buffer holds of them.
use mathlib.Core.Path.{◌≡◌, refl, sym, ap, ◌∙◌}
use mathlib.Core.Bool.{true}
use mathlib.Core.List.{List, [], ◌∷◌, ◌++◌}
use Prim.Native.Nat.{ℕ, suc, ◌+◌, ◌-◌, ◌*◌, ◌/◌, ◌%◌, ◌≤◌, ◌<◌}
use native.Mathlib.Omega.{arith}
use lib.ListN.{length, get_or, set, take, drop, length-drop}
use lib.Seq.{take-append_seam}
use Rattle.forms.specs.Form.{has}
use Rattle.definitions.specs.Numbers.{hex_digits, digit_value}
use Rattle.definitions.specs.Cases.{pairs}
use Rattle.list_laws.proofs.Every.{drop_here, all_at}
use Rattle.write_bytes.specs.Puts.{max_counted, puts, Puts}
use Rattle.write_bytes.proofs.Putting.{one_kept, same_length}
use Rattle.write_bytes.proofs.Whole.{most_of, puts_count, puts_buffer}
use Rattle.line_numbers.specs.HexPairs.{is_hex}
use Rattle.line_numbers.proofs.HexDigits.{hex_high}
use Rattle.line_numbers.proofs.HexForm.{hex_all}

two_on : (s : List ℕ) (i : ℕ) → i + 1 < length s → drop i s ≡ get_or s i 0 ∷ get_or s (i + 1) 0 ∷ drop (i + 2) s
two_on s i h =
    let e : i + 1 + 1 ≡ i + 2 = omega arith in
    drop_here s i 0 (omega (arith, h)) ∙ ap (λ (l : List ℕ). get_or s i 0 ∷ l) (drop_here s (i + 1) 0 h)
    ∙ ap (λ (k : ℕ). get_or s i 0 ∷ get_or s (i + 1) 0 ∷ drop k s) e

-- w is the two bytes from a place on as one number
module _ (s : List ℕ) (i w : ℕ) (good : is_hex s ≡ true) (h : i + 1 < length s) (e : w ≡ get_or s i 0 + get_or s (i + 1) 0 * 256) where
  hex_at : (k : ℕ) → k < length s → has hex_digits (get_or s k 0) ≡ true
  hex_at k g = all_at (has hex_digits) 0 s k (hex_all s good (omega (arith, h))) g

  first_is : w % 256 ≡ get_or s i 0
  first_is = omega (arith, e, hex_high (get_or s i 0) (hex_at i (omega (arith, h))))

  second_is : w / 256 ≡ get_or s (i + 1) 0
  second_is = omega (arith, e, hex_high (get_or s i 0) (hex_at i (omega (arith, h))))

  pub pair_hex : (has hex_digits (w % 256) ≡ true) × (has hex_digits (w / 256) ≡ true)
  pair_hex = (rw first_is (hex_at i (omega (arith, h))), rw second_is (hex_at (i + 1) h))

  -- the byte that they write is the next one
  pub pair-on :
      (r : ℕ) → r ≡ digit_value (w % 256) * 16 + digit_value (w / 256) → {out o : List ℕ} {at n : ℕ} → Puts out at (r ∷ []) o n
      → puts out at (pairs (drop i s)) ≡ puts o n (pairs (drop (i + 2) s))
  unfolding pairs puts
  pair-on r q {out = out} {at = at} p =
      let this : r ≡ digit_value (get_or s i 0) * 16 + digit_value (get_or s (i + 1) 0) = rw (← first_is, ← second_is) q in
      ap (λ (l : List ℕ). puts out at (pairs l)) (two_on s i h)
      ∙ ap (λ (b : ℕ). puts out at (b ∷ pairs (drop (i + 2) s))) (sym this)
      ∙ ap (λ (x : List ℕ × ℕ). puts x.0 x.1 (pairs (drop (i + 2) s))) (sym p.is)

-- the j-th of the pairs has room
pub pair-kept :
    (s : List ℕ) (j w : ℕ) → is_hex s ≡ true → 2 * j + 1 < length s → w ≡ get_or s (2 * j) 0 + get_or s (2 * j + 1) 0 * 256
    → (r : ℕ) → r ≡ digit_value (w % 256) * 16 + digit_value (w / 256) → (out : List ℕ) (at : ℕ) → at + j < max_counted
    → puts out (at + j) (pairs (drop (2 * j) s)) ≡ puts (set out (at + j) r) (at + (j + 1)) (pairs (drop (2 * (j + 1)) s))
pair-kept s j w good h e r q out at few =
    let place : suc (at + j) ≡ at + (j + 1) = omega arith in
    let next : 2 * j + 2 ≡ 2 * (j + 1) = omega arith in
    pair-on s (2 * j) w good h e r q (one_kept out (at + j) r few)
    ∙ ap (λ (n : ℕ). puts (set out (at + j) r) n (pairs (drop (2 * j + 2) s))) place
    ∙ ap (λ (n : ℕ). puts (set out (at + j) r) (at + (j + 1)) (pairs (drop n s))) next

pub pairs_out : (s : List ℕ) (i : ℕ) → length s ≤ i + 1 → pairs (drop i s) ≡ []
unfolding pairs
pairs_out s i h = short (drop i s) (omega (arith, length-drop i s, h))
  where
    short : (l : List ℕ) → length l ≤ 1 → pairs l ≡ []
    short [] g = refl
    short (b ∷ []) g = refl
    short (b ∷ (d ∷ l)) g = absurd (omega (arith, g))

-- ---- in a lent buffer

pairs_length : (l : List ℕ) → length (pairs l) * 2 ≤ length l
unfolding pairs
pairs_length [] = omega arith
pairs_length (a ∷ []) = omega arith
pairs_length (a ∷ (b ∷ l)) = omega (arith, pairs_length l)

-- pairs put from the start of a buffer that has room for those of most bytes
module _
    (most : ℕ) (few : most ≤ max_counted) (l room after : List ℕ) (n : ℕ) (p : Puts room 0 (pairs l) after n)
    (h : length l ≤ most) (g : most ≤ length room * 2)
  where
    count_is : n ≡ length (pairs l)
    count_is =
        let counted : n ≡ 0 + length (pairs l) =
        ap (λ (x : List ℕ × ℕ). x.1) p.is
        ∙ puts_count room 0 (pairs l) (omega arith)
        ∙ most_of (0 + length (pairs l)) max_counted (omega (arith, pairs_length l, h, few)) in
        omega (arith, counted)

    pub pairs_in : n ≤ length after
    pairs_in = omega (arith, count_is, pairs_length l, h, g, same_length p)

    pub pairs_are : take (n - 0) (drop 0 after) ≡ pairs l
    pairs_are =
        let e : n - 0 ≡ length (pairs l) = omega (arith, count_is) in
        let held : after ≡ pairs l ++ drop (0 + length (pairs l)) room =
        ap (λ (x : List ℕ × ℕ). x.0) p.is ∙ puts_buffer room 0 (pairs l) (omega (arith, pairs_length l, h, g)) (omega (arith, pairs_length l, h, few)) in
        ap (λ (k : ℕ). take k after) e ∙ ap (take (length (pairs l))) held ∙ take-append_seam (pairs l) (drop (0 + length (pairs l)) room)
