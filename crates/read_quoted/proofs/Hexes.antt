-- Hex pairs: two hex digits read as the byte that they write, and the first that is none stops the reading.
use mathlib.Core.Path.{◌≡◌, sym, ◌∙◌}
use mathlib.Core.Bool.{true, false}
use mathlib.Core.List.{List, [], ◌∷◌}
use Prim.Native.Nat.{ℕ, suc, ◌+◌, ◌-◌, ◌*◌, ◌≤◌, ◌<◌}
use native.Mathlib.Omega.{arith}
use native.Mathlib.Numerals.{add-one}
use lib.ListN.{length, get_or, take, drop}
use lib.Seq.{drop-cons}
use lib.Dec.{leb}
use borrow.Author.Tests.{leb-true, leb-false, le-leb, lt-ltb}
use Rattle.forms.specs.Form.{has, byte}
use Rattle.forms.specs.Scan.{begins}
use Rattle.forms.proofs.Bools.{by_cases}
use Rattle.forms.proofs.Sound.{never}
use Rattle.definitions.specs.Numbers.{hex_digits, digit_value, value_of}
use Rattle.definitions.specs.Forms.{hex_pair}
use Rattle.scan_cursors.specs.declared.Cursor.TheVariants.{Parsed, Failed}
use Rattle.definitions.specs.Limits.{max_byte}
use Rattle.scan_bytes.specs.Capped.{number_cap, capped}
use Rattle.scan_cursors.specs.Reads.{Reads}
use Rattle.scan_cursors.proofs.Readings.{fmap_reads, pair_reads, failed_reads, failed_any}
use Rattle.scan_pieces.proofs.AtPlace.{begins_at, begins_in, begun_in, byte_begun, byte_none}

digit_small : (b : ℕ) → has hex_digits b ≡ true → digit_value b ≤ 15
unfolding has digit_value
digit_small b t =
    by_cases (leb b 57)
    (λ x. rw x (omega (arith, leb-true b 57 x)))
    (λ x.
    rw x (by_cases (leb b 70)
    (λ y. rw y (omega (arith, leb-true b 70 y)))
    (λ y.
    rw y (by_cases (leb b 102)
    (λ z. omega (arith, leb-true b 102 z))
    (λ z.
    let h : 102 < b = leb-false b 102 z in
    let q : false ≡ true = rw (x, y, z, le-leb 48 b (omega arith), le-leb 65 b (omega arith), le-leb 97 b (omega arith)) at t in
    never (cc))))))

abbrev byte_of : ℕ × ℕ → ℕ
byte_of p = digit_value p.0 * 16 + digit_value p.1

module _ (s : List ℕ) (at : ℕ) where
  pub pair_none : at ≤ length s → begins hex_digits (drop at s) ≡ false → Reads hex_pair s (Parsed at) 0 (Failed at)
  pair_none h t =
      failed_any (fmap_reads byte_of (pair_reads h (byte_none hex_digits s at h t 0) (failed_reads (byte hex_digits) s at 0 h))) 0

  module _ (t : begins hex_digits (drop at s) ≡ true) where
    half_in : at + 1 ≤ length s
    half_in = begun_in hex_digits s at t

    pub pair_half : begins hex_digits (drop (at + 1) s) ≡ false → Reads hex_pair s (Parsed at) 0 (Failed (at + 1))
    pair_half u =
        failed_any (fmap_reads byte_of (pair_reads (omega (arith, half_in)) (byte_begun hex_digits s at t) (byte_none hex_digits s (at + 1) half_in u 0))) 0

    module _ (u : begins hex_digits (drop (at + 1) s) ≡ true) where
      pub pair-in : at + 2 ≤ length s
      pair-in = omega (arith, begins_in hex_digits s (at + 1) u)

      digit : (i : ℕ) → begins hex_digits (drop i s) ≡ true → digit_value (get_or s i 0) ≤ 15
      digit i b = digit_small (get_or s i 0) (sym (begins_at hex_digits s i (begins_in hex_digits s i b)) ∙ b)

      two : take (at + 2 - at) (drop at s) ≡ get_or s at 0 ∷ get_or s (at + 1) 0 ∷ []
      two =
          let e : at + 2 - at ≡ 2 = omega arith in
          let h = pair-in in
          rw (e, add-one, drop-cons s at 0 (omega arith), drop-cons s (suc at) 0 (omega arith))

      written : (v : ℕ) → v ≡ capped (value_of 16 0 (take (at + 2 - at) (drop at s))) → v ≡ digit_value (get_or s at 0) * 16 + digit_value (get_or s (at + 1) 0)
      unfolding value_of
      written v e =
          let a = digit at t in
          let b = digit (at + 1) u in
          let q : v ≡ capped ((0 * 16 + digit_value (get_or s at 0)) * 16 + digit_value (get_or s (at + 1) 0)) = rw two at e in
          q ∙ rw (lt-ltb ((0 * 16 + digit_value (get_or s at 0)) * 16 + digit_value (get_or s (at + 1) 0)) number_cap (omega arith)) (omega arith)

      pub pair_fits : (v : ℕ) → v ≡ capped (value_of 16 0 (take (at + 2 - at) (drop at s))) → v ≤ max_byte
      pair_fits v e = omega (arith, written v e, digit at t, digit (at + 1) u)

      pub pair-whole : (v : ℕ) → v ≡ capped (value_of 16 0 (take (at + 2 - at) (drop at s))) → Reads hex_pair s (Parsed at) v (Parsed (at + 2))
      pair-whole v e =
          let q : at + 1 + 1 ≡ at + 2 = omega arith in
          rw (written v e, ← q)
          (fmap_reads byte_of (pair_reads (omega (arith, half_in)) (byte_begun hex_digits s at t) (byte_begun hex_digits s (at + 1) u)))
