-- The loop has read the first i bytes of the field; a field of at most four bytes is below 2 ^ 32, so nothing wraps.
use mathlib.Core.Path.{refl}
use Prim.Native.Nat.{◌+◌, ◌≤◌}
use native.Mathlib.Omega.{arith}
use Rattle.definitions.specs.Packet.{big_endian}
use Rattle.packet_header.proofs.Widths.{be_more, more_fits}
use Rattle.packet_header.proofs.big_endian.be_at.Goals as goal

pub loop-i-init : goal.loop-i-init
unfolding big_endian
loop-i-init c = refl

pub overflow_mul-v : goal.overflow_mul-v
overflow_mul-v c =
    let a = c.args in
    let four : c.loop-i.i + 1 ≤ 4 = omega (arith, c.requires.1) in
    omega (arith, more_fits a.d.now (λ k. (c.type_inv.d k).fits) a.at _ _ _ c.loop-i.invariant refl four)

pub overflow_add-v : goal.overflow_add-v
overflow_add-v c =
    let a = c.args in
    let four : c.loop-i.i + 1 ≤ 4 = omega (arith, c.requires.1) in
    omega (arith, more_fits a.d.now (λ k. (c.type_inv.d k).fits) a.at _ _ _ c.loop-i.invariant refl four, c.byte_at.ensures)

pub loop-i-preserved : goal.loop-i-preserved
loop-i-preserved c = rw (c.from.ensures, c.byte_at.ensures, c.loop-i.invariant) (be_more _ _ _)
