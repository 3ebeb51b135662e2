-- Header fields over their width: one byte more, how large they are, and where they may be read as well. By induction on the width.
use mathlib.Core.Path.{◌≡◌, refl}
use mathlib.Core.List.{List}
use Prim.Native.Nat.{ℕ, zero, suc, ◌+◌, ◌*◌, ◌^◌, ◌≤◌, ◌<◌}
use native.Mathlib.Nat.{pow-suc, pow-le-pow_right, add_assoc}
use native.Mathlib.Numerals.{add-one}
use native.Mathlib.Omega.{arith}
use lib.ListN.{get_or, take, drop}
use lib.Seq.{get_or-take, get_or-drop}
use Rattle.definitions.specs.Packet.{big_endian}

pub be_more : (n : ℕ) (d : List ℕ) (at : ℕ) → big_endian n d at * 256 + get_or d (at + n) 0 ≡ big_endian (n + 1) d at
unfolding big_endian
be_more n d at = rw (add-one n)

module _ (d : List ℕ) (bytes : (k : ℕ) → get_or d k 0 < 256) (at : ℕ) where
  pub be_below : (n : ℕ) → big_endian n d at < 256 ^ n
  unfolding big_endian
  be_below zero = omega arith
  be_below (suc n) = let h = be_below n in let b = bytes (at + n) in rw (pow-suc 256 n) (omega arith)

  -- a byte more, up to four bytes
  pub more_fits : (n v b : ℕ) → v ≡ big_endian n d at → b ≡ get_or d (at + n) 0 → n + 1 ≤ 4 → v * 256 + b < 4294967296
  more_fits n v b ev eb h =
      let most : 256 ^ (n + 1) ≤ 256 ^ 4 = pow-le-pow_right (omega arith) h in
      omega (arith, be_below (n + 1), be_more n d at)

-- what is read inside the datagram is what is read in the packet
pub be_take : (n k : ℕ) (d : List ℕ) (at : ℕ) → at + n ≤ k → big_endian n (take k d) at ≡ big_endian n d at
unfolding big_endian
be_take zero k d at h = refl
be_take (suc n) k d at h =
    let front : at + n ≤ k = omega arith in
    rw (be_take n k d at front, get_or-take k d (at + n) 0 (omega arith))

-- what is read after a header is what is read so many bytes later
pub be_drop : (n k : ℕ) (d : List ℕ) (at : ℕ) → big_endian n (drop k d) at ≡ big_endian n d (k + at)
unfolding big_endian
be_drop zero k d at = refl
be_drop (suc n) k d at = rw (be_drop n k d at, get_or-drop k d (at + n) 0, add_assoc k at n)
