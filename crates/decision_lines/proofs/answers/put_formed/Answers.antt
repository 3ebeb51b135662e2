-- The pairs of the three columns have room, and what is decided is decided for the bytes that they write.
use native.Mathlib.Omega.{arith}
use Rattle.write_bytes.proofs.Putting.{told}
use Rattle.line_numbers.proofs.HexBytes.{pairs_in, pairs_are}
use Rattle.decision_lines.specs.DecisionLines.{max_line}
use Rattle.decision_lines.proofs.Columns.{room_is, decided-is}
use Rattle.decision_lines.proofs.answers.put_formed.Goals as goal

pub slice_bounds-decide-end : goal.slice_bounds-decide-end
slice_bounds-decide-end c = omega (arith, pairs_in max_line (omega arith) _ _ _ _ c.put_pairs-b.ensures c.requires.5 (room_is (omega arith)))

pub slice_bounds-decide-end-2 : goal.slice_bounds-decide-end-2
slice_bounds-decide-end-2 c = omega (arith, pairs_in max_line (omega arith) _ _ _ _ c.put_pairs-n.ensures c.requires.3 (room_is (omega arith)))

pub slice_bounds-decide-end-3 : goal.slice_bounds-decide-end-3
slice_bounds-decide-end-3 c = omega (arith, pairs_in max_line (omega arith) _ _ _ _ c.put_pairs-d.ensures c.requires.4 (room_is (omega arith)))

pub returns : goal.returns
returns c =
    let packet = pairs_are max_line (omega arith) _ _ _ _ c.put_pairs-n.ensures c.requires.3 (room_is (omega arith)) in
    let decoded = pairs_are max_line (omega arith) _ _ _ _ c.put_pairs-d.ensures c.requires.4 (room_is (omega arith)) in
    let book = pairs_are max_line (omega arith) _ _ _ _ c.put_pairs-b.ensures c.requires.5 (room_is (omega arith)) in
    told (decided-is _ _ packet decoded book c.decide-answer.ensures.answer) c.put_decision.ensures
