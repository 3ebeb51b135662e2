-- One byte is its own number.
use mathlib.Core.Path.{◌≡◌, ap}
use Prim.Native.Nat.{◌+◌}
use lib.ListN.{get_or}
use native.Mathlib.Omega.{arith}
use Rattle.definitions.specs.Packet.{big_endian}
use Rattle.packet_header.proofs.big_endian.be8.Goals as goal

pub returns : goal.returns
unfolding big_endian
returns c =
    let d = c.args.d.now in
    let here : get_or d (c.args.at + 0) 0 ≡ get_or d c.args.at 0 = ap (λ k. get_or d k 0) (omega arith) in
    omega (arith, here, c.byte_at.ensures)
