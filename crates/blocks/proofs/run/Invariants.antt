-- The block holds no more bytes than it has.
use Rattle.std.proofs.Common.{◌≤◌}
use Rattle.blocks.proofs.run.Given as goal

abbrev pub invariant-loop : goal.invariant-loop
invariant-loop g l = l.held ≤ 1048576
