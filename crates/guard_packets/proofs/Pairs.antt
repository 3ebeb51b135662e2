-- The number of two bytes, big end first: the first of them 256 times, and the second; so it is below 65536.
use mathlib.Core.Path.{◌≡◌, ap}
use mathlib.Core.List.{List}
use Prim.Native.Nat.{ℕ, ◌+◌, ◌*◌, ◌<◌}
use native.Mathlib.Omega.{arith}
use lib.ListN.{get_or}
use Rattle.definitions.specs.Packet.{big_endian}

module _ (l : List ℕ) (at : ℕ) where
  pub pair_is : big_endian 2 l at ≡ get_or l at 0 * 256 + get_or l (at + 1) 0
  unfolding big_endian
  pair_is = let here : get_or l (at + 0) 0 ≡ get_or l at 0 = ap (λ k. get_or l k 0) (omega arith) in omega (arith, here)

  pub pair_below : ((k : ℕ) → get_or l k 0 < 256) → big_endian 2 l at < 65536
  pair_below bytes = omega (arith, pair_is, bytes at, bytes (at + 1))
