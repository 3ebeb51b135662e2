use mathlib.Core.Path.{◌≡◌}
use mathlib.Core.List.{map}
use Prim.Native.Nat.{◌+◌}
use lib.ListN.{drop}
use lib.Seq.{sets}
use Rattle.definitions.specs.Starts.{start_number}
use Rattle.match_numbers.proofs.put_starts.Given as goal

abbrev pub invariant-loop-j : goal.invariant-loop-j
invariant-loop-j l = sets l.initial.out l.at (map start_number l.start-items) ≡ sets l.out (l.at + l.j) (drop l.j (map start_number l.start-items))
