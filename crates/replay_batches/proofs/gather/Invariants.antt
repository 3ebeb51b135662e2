use mathlib.Core.List.{[], ◌∷◌}
use Prim.Native.Nat.{◌-◌}
use lib.ListN.{length, drop}
use Rattle.line_stream.specs.Ended.{ended_lines}
use Rattle.replay_batches.proofs.Gathering.{Gathering}
use Rattle.replay_batches.proofs.gather.Given as goal

abbrev pub invariant-loop-g : goal.invariant-loop-g
invariant-loop-g l = Gathering (l.first ∷ ended_lines [] l.rest) l.block l.marks l.g (ended_lines [] (drop l.at l.rest))

abbrev pub decreases-loop-g : goal.decreases-loop-g
decreases-loop-g l = length l.rest - l.at
