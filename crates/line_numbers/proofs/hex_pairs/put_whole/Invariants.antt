use mathlib.Core.Path.{◌≡◌}
use Prim.Native.Nat.{◌+◌, ◌*◌}
use lib.ListN.{drop}
use Rattle.definitions.specs.Cases.{pairs}
use Rattle.write_bytes.specs.Puts.{puts}
use Rattle.line_numbers.proofs.hex_pairs.put_whole.Given as goal

abbrev pub invariant-loop-j : goal.invariant-loop-j
invariant-loop-j l = puts l.initial.out l.at (pairs l.s) ≡ puts l.out (l.at + l.j) (pairs (drop (2 * l.j) l.s))
