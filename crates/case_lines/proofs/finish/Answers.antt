-- The last line is answered as any other, or there is none.
use native.Mathlib.Omega.{arith}
use Rattle.case_lines.specs.CaseAnswers.{case_answer}
use Rattle.line_stream.proofs.Finish.{one_waits}
use Rattle.case_lines.proofs.Whole.{finish_whole}
use Rattle.case_lines.proofs.finish.Goals as goal

pub returns-then-t : goal.returns-then-t
returns-then-t c =
    let answer = c.answer_case-at.ensures in
    let put = one_waits case_answer c.last_line-t.ensures c.if-t.true c.kept.ensures answer c.end_line.ensures in
    record {
      puts = put;
      whole = finish_whole _ put (omega arith);
    }
