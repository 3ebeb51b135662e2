use mathlib.Core.Path.{◌≡◌}
use Rattle.definitions.specs.Packet.{big_endian}
use Rattle.packet_header.proofs.big_endian.be_at.Given as goal

abbrev pub invariant-loop-i : goal.invariant-loop-i
invariant-loop-i l = l.v ≡ big_endian l.i l.d l.at
