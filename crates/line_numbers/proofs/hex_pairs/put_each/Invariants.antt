use mathlib.Core.Path.{◌≡◌}
use Prim.Native.Nat.{◌*◌}
use lib.ListN.{drop}
use Rattle.definitions.specs.Cases.{pairs}
use Rattle.write_bytes.specs.Puts.{puts}
use Rattle.line_numbers.proofs.hex_pairs.put_each.Given as goal

abbrev pub invariant-loop-j : goal.invariant-loop-j
invariant-loop-j l = puts l.initial.out l.initial.next (pairs l.s) ≡ puts l.out l.next (pairs (drop (2 * l.j) l.s))
