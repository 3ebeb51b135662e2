use Rattle.guard_packets.proofs.Counts.{Counted}
use Rattle.guard_packets.proofs.count_records.Given as goal

abbrev pub invariant-loop-packets : goal.invariant-loop-packets
invariant-loop-packets l = Counted l.block l.n l.packets l.bytes
