use native.Mathlib.Omega.{arith}
use Rattle.write_bytes.proofs.Putting.{told}
use Rattle.line_numbers.proofs.HexBytes.{pairs_in, pairs_are}
use Rattle.case_lines.specs.CaseLines.{max_line}
use Rattle.case_lines.proofs.Columns.{room_is, accepted_is}
use Rattle.case_lines.proofs.answers.put_formed.Goals as goal

pub slice_bounds-put_query-end : goal.slice_bounds-put_query-end
slice_bounds-put_query-end c = omega (arith, pairs_in max_line (omega arith) _ _ _ _ c.put_pairs-n.ensures c.requires.2 (room_is (omega arith)))

pub slice_bounds-put_query-end-in-Ok : goal.slice_bounds-put_query-end-in-Ok
slice_bounds-put_query-end-in-Ok c = omega (arith, pairs_in max_line (omega arith) _ _ _ _ c.put_pairs-d.ensures c.requires.3 (room_is (omega arith)))

pub returns-in-Ok : goal.returns-in-Ok
returns-in-Ok c =
    let packet = pairs_are max_line (omega arith) _ _ _ _ c.put_pairs-n.ensures c.requires.2 (room_is (omega arith)) in
    let decoded = pairs_are max_line (omega arith) _ _ _ _ c.put_pairs-d.ensures c.requires.3 (room_is (omega arith)) in
    told (accepted_is _ _ _ packet decoded c.read-reading.ensures.answer c.in-Ok.is) c.put_query.ensures
