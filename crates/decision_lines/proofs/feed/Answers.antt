-- The loop is line_stream's, the answer a decision's.
use native.Mathlib.Omega.{arith}
use Rattle.line_stream.proofs.Loop as loop
use Rattle.decision_lines.proofs.Whole.{feed_whole}
use Rattle.decision_lines.proofs.feed.Goals as goal

pub loop-t-init : goal.loop-t-init
loop-t-init c = loop.loop_begins _

pub next_line-t-requires : goal.next_line-t-requires
next_line-t-requires c = loop.loop-lf _ c.loop-t.invariant c.first_line-t.ensures c.loop-t-test.true

pub loop-t-preserved : goal.loop-t-preserved
loop-t-preserved c =
    let answer = c.answer_decision-at.ensures in
    loop.loop_goes _ c.loop-t.invariant c.loop-t-test.true c.kept.ensures answer c.next_line-t.ensures

pub returns : goal.returns
returns c =
    let feeds = loop.loop-ends _ c.loop-t.invariant c.first_line-t.ensures c.loop-t-test.false in
    record {
      feeds = feeds;
      whole = feed_whole feeds (omega arith);
    }
