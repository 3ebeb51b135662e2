use Prim.Native.Nat.{◌-◌}
use lib.ListN.{length}
use Rattle.read_value.specs.Values.{pattern_bytes_of}
use Rattle.read_quoted.proofs.Appended.{Writes}
use Rattle.read_quoted.proofs.Bytes.{element_writing}
use Rattle.read_quoted.proofs.patterns.bytes_at.Given as goal

abbrev pub invariant-loop-end : goal.invariant-loop-end
invariant-loop-end l = Writes element_writing l.s l.at (pattern_bytes_of l.initial.bytes l.used) l.here (pattern_bytes_of l.bytes l.to)

abbrev pub decreases-loop-end : goal.decreases-loop-end
decreases-loop-end l = length l.s - l.here
