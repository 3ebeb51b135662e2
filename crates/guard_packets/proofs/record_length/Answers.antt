-- The head and two numbers of two bytes: each is below 65536, so nothing wraps.
use Prim.Native.Nat.{ℕ, ◌<◌}
use native.Mathlib.Omega.{arith}
use lib.ListN.{get_or}
use Rattle.definitions.specs.Blocks.{record_length}
use Rattle.guard_packets.proofs.Pairs.{pair_below}
use Rattle.guard_packets.proofs.record_length.Goals as goal

pub overflow_add-result : goal.overflow_add-result
overflow_add-result c =
    let s = c.args.s.now in
    let bytes : (k : ℕ) → get_or s k 0 < 256 = λ k. (c.type_inv.s k).fits in
    omega (arith, c.number_at.ensures, pair_below s 2 bytes)

pub overflow_add-result-2 : goal.overflow_add-result-2
overflow_add-result-2 c =
    let s = c.args.s.now in
    let bytes : (k : ℕ) → get_or s k 0 < 256 = λ k. (c.type_inv.s k).fits in
    omega (arith, c.number_at.ensures, c.number_at-2.ensures, pair_below s 2 bytes, pair_below s 4 bytes)

pub returns : goal.returns
unfolding record_length
returns c = rw (c.number_at.ensures, c.number_at-2.ensures)
