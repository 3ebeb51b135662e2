use Prim.Native.Nat.{◌≤◌}
use Rattle.scan_bytes.proofs.Saturation.{Sum}
use Rattle.scan_bytes.proofs.numbers.value_of.Given as goal

abbrev pub invariant-loop-b : goal.invariant-loop-b
invariant-loop-b l = (low : 1 ≤ l.base) × Sum l.base low l.b-items l.v l.b-index
