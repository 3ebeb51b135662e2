use Prim.Native.Nat.{◌-◌}
use native.Mathlib.Omega.{arith}
use Rattle.write_bytes.proofs.Clipping.{at_most_le}
use Rattle.write_options.proofs.place_after.Goals as goal

pub overflow_add-result : goal.overflow_add-result
overflow_add-result c = omega (arith, c.at_most.ensures, at_most_le c.in-Pattern.p.len (c.args.len - c.args.from))
