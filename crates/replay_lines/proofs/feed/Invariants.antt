use Rattle.definitions.specs.LoadedBooks.{rules_in}
use Rattle.line_stream.specs.Steps.{lines_left}
use Rattle.replay_lines.proofs.Replaying.{Replaying}
use Rattle.replay_lines.proofs.feed.Given as goal

abbrev pub invariant-loop-t : goal.invariant-loop-t
invariant-loop-t l = Replaying (rules_in l.book l.rules) l.input l.initial.line l.initial.out l.initial.t l.initial.sum l.line l.out l.answers l.ahead l.sum l.t

abbrev pub decreases-loop-t : goal.decreases-loop-t
decreases-loop-t l = lines_left l.input l.t
