-- The last line is decided alone and answered as any other, or there is none; then come the totals.
use native.Mathlib.Omega.{arith}
use Rattle.replay_lines.proofs.NarrowRules.{typed_narrow}
use Rattle.replay_lines.proofs.Lookahead.{decided_one}
use Rattle.replay_lines.proofs.Ending.{ends_none, ends_one}
use Rattle.replay_lines.proofs.Whole.{finish_whole}
use Rattle.replay_lines.proofs.finish.Goals as goal

pub returns-then-t : goal.returns-then-t
returns-then-t c =
    let narrow = typed_narrow _ _ _ c.well_formed.1.0 in
    let all = ends_one _ c.last_line-t.ensures _ narrow c.if-t.true c.kept.ensures (decided_one _ _ c.decide_lines.ensures)
    c.put_outcome-at.ensures c.end_line-end.ensures c.count-sum.ensures c.put_totals.ensures in
    record {
      puts = all;
      whole = finish_whole _ _ _ all (omega arith);
    }

pub returns : goal.returns
returns c =
    let all = ends_none _ c.last_line-t.ensures _ c.if-t.false c.put_totals-2.ensures in
    record {
      puts = all;
      whole = finish_whole _ _ _ all (omega arith);
    }
