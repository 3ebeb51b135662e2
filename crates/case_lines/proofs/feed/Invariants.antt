use Rattle.case_lines.specs.CaseAnswers.{case_answer}
use Rattle.line_stream.specs.Steps.{lines_left}
use Rattle.line_stream.proofs.Loop as loop
use Rattle.case_lines.proofs.feed.Given as goal

abbrev pub invariant-loop-t : goal.invariant-loop-t
invariant-loop-t l = loop.Loop case_answer l.input l.initial.line l.initial.out l.initial.t l.line l.out l.t

abbrev pub decreases-loop-t : goal.decreases-loop-t
decreases-loop-t l = lines_left l.input l.t
