-- The last line is answered as any other, or there is none.
use native.Mathlib.Omega.{arith}
use Rattle.definitions.specs.Limits.{document_limits}
use Rattle.definitions.specs.Lines.{line_of}
use Rattle.line_stream.proofs.Finish.{one_waits}
use Rattle.text_lines.proofs.Whole.{finish_whole}
use Rattle.text_lines.proofs.finish.Goals as goal

pub returns-then-t : goal.returns-then-t
returns-then-t c =
    let answer = c.answer_text-at.ensures in
    let put = one_waits (line_of document_limits) c.last_line-t.ensures c.if-t.true c.kept.ensures answer c.end_line.ensures in
    record {
      puts = put;
      whole = finish_whole _ put (omega arith);
    }
