use Prim.Native.Nat.{◌-◌}
use lib.ListN.{take, drop}
use Rattle.read_names.specs.Names.{option_names, option_order}
use Rattle.read_names.proofs.Rows.{Table, Left}
use Rattle.read_names.proofs.option_named.Given as goal

abbrev pub invariant-loop-name : goal.invariant-loop-name
invariant-loop-name l = Table l.name-items × Left option_order option_names (take (l.to - l.from) (drop l.from l.s)) l.name-index
