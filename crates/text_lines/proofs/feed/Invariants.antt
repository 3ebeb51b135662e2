use Rattle.definitions.specs.Limits.{document_limits}
use Rattle.definitions.specs.Lines.{line_of}
use Rattle.line_stream.specs.Steps.{lines_left}
use Rattle.line_stream.proofs.Loop as loop
use Rattle.text_lines.proofs.feed.Given as goal

abbrev pub invariant-loop-t : goal.invariant-loop-t
invariant-loop-t l = loop.Loop (line_of document_limits) l.input l.initial.line l.initial.out l.initial.t l.line l.out l.t

abbrev pub decreases-loop-t : goal.decreases-loop-t
decreases-loop-t l = lines_left l.input l.t
