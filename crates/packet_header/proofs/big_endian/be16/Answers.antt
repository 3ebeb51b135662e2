-- A field of two bytes is below 256 ^ 2.
use native.Mathlib.Omega.{arith}
use Rattle.packet_header.proofs.Widths.{be_below}
use Rattle.packet_header.proofs.big_endian.be16.Goals as goal

pub overflow_cast-result : goal.overflow_cast-result
overflow_cast-result c = omega (arith, c.be_at.ensures, be_below c.args.d.now (λ k. (c.type_inv.d k).fits) c.args.at 2)
