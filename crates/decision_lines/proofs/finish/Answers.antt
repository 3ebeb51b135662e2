-- The last line is answered as any other, or there is none.
use native.Mathlib.Omega.{arith}
use Rattle.decision_lines.specs.DecisionLines.{decision_answer}
use Rattle.line_stream.proofs.Finish.{one_waits}
use Rattle.decision_lines.proofs.Whole.{finish_whole}
use Rattle.decision_lines.proofs.finish.Goals as goal

pub returns-then-t : goal.returns-then-t
returns-then-t c =
    let answer = c.answer_decision-at.ensures in
    let put = one_waits decision_answer c.last_line-t.ensures c.if-t.true c.kept.ensures answer c.end_line.ensures in
    record {
      puts = put;
      whole = finish_whole _ put (omega arith);
    }
