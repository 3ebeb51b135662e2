-- The line's record is put, and the mark is set by whether it is good.
use mathlib.Core.Path.{sym, ap, ◌∙◌}
use native.Mathlib.Numerals.{add-one}
use lib.ListN.{set}
use Rattle.replay_batches.proofs.Gathering.{good_mark, bad_mark}
use Rattle.replay_batches.proofs.add_line.Goals as goal
use Rattle.replay_batches.proofs.add_line.Goals.{then-is_some, else-is_some}

pub returns : goal.returns
returns c =
    let x = c.args in
    let is = sym c.put_line-next.ensures.good ∙ sym c.is_some.ensures in
    record {
      put = rw c.unwrap_or.ensures c.put_line-next.ensures.put;
      noted =
          ap (set x.marks.now x.g.lines)
          (elim c.if-is_some.branch [
            | then-is_some w ↦ w.marks-is ∙ sym (good_mark x.line.now (is ∙ w.if-is_some.true))
            | else-is_some w ↦ w.marks-is ∙ sym (bad_mark x.line.now (is ∙ w.if-is_some.false))
          ]);
      more = add-one x.g.lines;
    }
