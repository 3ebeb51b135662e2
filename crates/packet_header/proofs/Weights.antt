-- THE NUMBER OF SOME BYTES, over their width and over the end that comes first: the byte at place i from its little end has the weight 256 ^ i
-- (`number_weighs`); so it is below 256 to the width (`number_below`). Header fields are such numbers, big end first (`header_number`), and byte_test compares
-- them (document 02, T-01).
use mathlib.Core.Path.{◌≡◌, refl, sym, ap, ◌∙◌}
use mathlib.Core.Bool.{Bool, true, false}
use mathlib.Core.List.{List, reverse}
use Prim.Native.Nat.{ℕ, zero, suc, ◌+◌, ◌-◌, ◌*◌, ◌^◌, ◌≤◌, ◌<◌}
use native.Mathlib.Omega.{arith}
use lib.ListN.{length, get_or, take, drop, length-take, length-drop, get_or-eq_default}
use lib.Dec.{ltb}
use lib.Seq.{get_or-take, get_or-drop}
use borrow.Author.Tests.{ltb-true, ltb-false}
use Rattle.definitions.specs.Packet.{big_endian}
use Rattle.definitions.specs.Tests.{big_end_first, number_at}
use Rattle.packet_header.proofs.Widths.{be_below, be_take, be_drop}
use Rattle.packet_header.proofs.Reversed.{reverse_read, reverse_bytes}

-- ---- what the statement says

-- the number of n digits to the base 256, the lowest at 0
unfoldable pub weighed : ℕ → (ℕ → ℕ) → ℕ
weighed zero digit = 0
weighed (suc n) digit = digit 0 + 256 * weighed n (λ i. digit (suc i))

-- where the byte stands that is the i-th from the little end of n bytes at a place
abbrev pub from_little_end : Bool → ℕ → ℕ → ℕ → ℕ
from_little_end true n at i = at + i
from_little_end false n at i = at + (n - suc i)

-- ---- over the width

weighed_alike : (n : ℕ) (f g : ℕ → ℕ) → ((i : ℕ) → i < n → f i ≡ g i) → weighed n f ≡ weighed n g
unfolding weighed
weighed_alike zero f g h = refl
weighed_alike (suc n) f g h =
    rw (h 0 (omega arith), weighed_alike n (λ i. f (suc i)) (λ i. g (suc i)) (λ i k. h (suc i) (omega arith)))

be_weighs : (n : ℕ) (l : List ℕ) → big_endian n l 0 ≡ weighed n (λ i. get_or l (n - suc i) 0)
unfolding big_endian weighed
be_weighs zero l = refl
be_weighs (suc n) l =
    let last : get_or l (0 + n) 0 ≡ get_or l (suc n - 1) 0 = ap (λ k. get_or l k 0) (omega arith) in
    let rest : weighed n (λ i. get_or l (n - suc i) 0) ≡ weighed n (λ i. get_or l (suc n - suc (suc i)) 0) =
    weighed_alike n _ _ (λ i k. ap (λ j. get_or l j 0) (omega arith)) in
    omega (arith, be_weighs n l, last, rest)

pub header_number : (n : ℕ) (d : List ℕ) (at : ℕ) → number_at false n d at ≡ big_endian n d at
unfolding number_at
header_number n d at = be_take n n (drop at d) 0 (omega arith) ∙ be_drop n at d 0 ∙ ap (big_endian n d) (omega arith)

module _ (n : ℕ) (d : List ℕ) (at : ℕ) (inside : at + n ≤ length d) where
  part_length : length (take n (drop at d)) ≡ n
  part_length = omega (arith, length-take n (drop at d), length-drop at d)

  part_read : (i : ℕ) → i < n → get_or (take n (drop at d)) i 0 ≡ get_or d (at + i) 0
  part_read i h = get_or-take n (drop at d) i 0 h ∙ get_or-drop at d i 0

  ordered : (little : Bool) (i : ℕ) → i < n → get_or (big_end_first little (take n (drop at d))) (n - suc i) 0 ≡ get_or d (from_little_end little n at i) 0
  ordered true i h =
      ap (λ k. get_or (reverse (take n (drop at d))) (k - suc i) 0) (sym part_length) ∙ reverse_read (take n (drop at d)) i (rw part_length h) ∙ part_read i h
  ordered false i h = part_read (n - suc i) (omega arith)

  pub number_weighs : (little : Bool) → number_at little n d at ≡ weighed n (λ i. get_or d (from_little_end little n at i) 0)
  unfolding number_at
  number_weighs little = be_weighs n (big_end_first little (take n (drop at d))) ∙ weighed_alike n _ _ (ordered little)

  module _ (bytes : (k : ℕ) → get_or d k 0 < 256) where
    part_bytes : (k : ℕ) → get_or (take n (drop at d)) k 0 < 256
    part_bytes k = go (ltb k n) refl
      where
        go : (b : Bool) → ltb k n ≡ b → get_or (take n (drop at d)) k 0 < 256
        go true e = omega (arith, part_read k (ltb-true k n e), bytes (at + k))
        go false e =
            let h : length (take n (drop at d)) ≤ k = omega (arith, part_length, ltb-false k n e) in
            omega (arith, get_or-eq_default (take n (drop at d)) 0 h)

    ordered_bytes : (little : Bool) (k : ℕ) → get_or (big_end_first little (take n (drop at d))) k 0 < 256
    ordered_bytes true k = reverse_bytes (take n (drop at d)) part_bytes k
    ordered_bytes false k = part_bytes k

    pub number_below : (little : Bool) → number_at little n d at < 256 ^ n
    unfolding number_at
    number_below little = be_below (big_end_first little (take n (drop at d))) (ordered_bytes little) 0 n
