-- Feeds have led from the line and the state that a run begins with to those at which it stands.
use Rattle.line_io.specs.Blocks.{begins}
use Rattle.line_io.specs.States.{FedOn}
use Rattle.line_io.proofs.run.Given as goal

abbrev pub invariant-loop : goal.invariant-loop
invariant-loop g l = FedOn g.F.Fn l.fn.feed begins.begun l.fn.state l.s.begun l.state
