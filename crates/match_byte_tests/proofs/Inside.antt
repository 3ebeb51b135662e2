-- The bytes of a test: four at most.
use Prim.Native.Nat.{◌≤◌}
use native.Mathlib.Omega.{arith}
use Rattle.definitions.specs.declared.table.Width.{Width}
use Rattle.definitions.specs.declared.table.Width.TheVariants.{One, Two, Four}
use Rattle.definitions.specs.ByteCounts.{byte_count}

pub four_at_most : (w : Width) → byte_count w ≤ 4
four_at_most One = omega arith
four_at_most Two = omega arith
four_at_most Four = omega arith
