use Rattle.decision_lines.specs.DecisionLines.{decision_answer}
use Rattle.line_stream.specs.Steps.{lines_left}
use Rattle.line_stream.proofs.Loop as loop
use Rattle.decision_lines.proofs.feed.Given as goal

abbrev pub invariant-loop-t : goal.invariant-loop-t
invariant-loop-t l = loop.Loop decision_answer l.input l.initial.line l.initial.out l.initial.t l.line l.out l.t

abbrev pub decreases-loop-t : goal.decreases-loop-t
decreases-loop-t l = lines_left l.input l.t
