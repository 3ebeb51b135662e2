use mathlib.Core.Path.{◌≡◌}
use mathlib.Core.List.{reverse}
use lib.ListN.{length}
use Rattle.definitions.specs.Packet.{big_endian}
use Rattle.packet_header.proofs.byte_numbers.le_all.Given as goal

abbrev pub invariant-loop-b : goal.invariant-loop-b
invariant-loop-b l = l.v ≡ big_endian (length l.yielded) (reverse l.d) 0
