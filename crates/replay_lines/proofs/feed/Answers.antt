-- The loop is line_stream's; a turn is `replaying_goes`.
use mathlib.Core.Path.{◌≡◌, refl, ◌∙◌}
use Prim.Native.Nat.{◌+◌}
use native.Mathlib.Omega.{arith}
use lib.ListN.{length}
use borrow.Author.Rules.{part_to_end}
use Rattle.replay_laws.specs.Traces.{max_trace_line}
use Rattle.line_stream.proofs.Loop as loop
use Rattle.line_stream.proofs.Keeping.{keeps_length}
use Rattle.replay_lines.proofs.NarrowRules.{typed_narrow}
use Rattle.replay_lines.proofs.Counting.{counted_ends}
use Rattle.replay_lines.proofs.Replaying.{replaying_begins, replaying_goes}
use Rattle.replay_lines.proofs.Whole.{feed_whole}
use Rattle.replay_lines.proofs.feed.Goals as goal

pub loop-t-init : goal.loop-t-init
loop-t-init c = replaying_begins _ (keeps_length c.first_line-t.ensures.keeps ∙ (omega arith))

pub overflow_add-after : goal.overflow_add-after
overflow_add-after c =
    let inside = loop.loop-lf _ c.loop-t.invariant.lines c.first_line-t.ensures c.loop-t-test.true in
    omega arith

pub slice_bounds-look_ahead-count : goal.slice_bounds-look_ahead-count
slice_bounds-look_ahead-count c =
    let inside = loop.loop-lf _ c.loop-t.invariant.lines c.first_line-t.ensures c.loop-t-test.true in
    omega (arith, inside)

pub slice_bounds-look_ahead-start : goal.slice_bounds-look_ahead-start
slice_bounds-look_ahead-start c =
    let inside = loop.loop-lf _ c.loop-t.invariant.lines c.first_line-t.ensures c.loop-t-test.true in
    omega (arith, inside)

pub look_ahead-ready-requires : goal.look_ahead-ready-requires
look_ahead-ready-requires c =
    let x = c.args in
    let after = c.loop-t.t.fed.taken + 1 in
    rw (c.kept.ensures, part_to_end x.input.now after) (c.loop-t.invariant.ready c.loop-t-test.true)

pub bounds-answers-i : goal.bounds-answers-i
bounds-answers-i c =
    let ready = c.look_ahead-ready.ensures in
    omega (arith, ready.ready.room, ready.some)

pub next_line-t-requires : goal.next_line-t-requires
next_line-t-requires c = loop.loop-lf _ c.loop-t.invariant.lines c.first_line-t.ensures c.loop-t-test.true

pub loop-t-smaller : goal.loop-t-smaller
loop-t-smaller c = loop.loop_less _ c.loop-t.invariant.lines c.loop-t-test.true c.next_line-t.ensures

pub loop-t-preserved : goal.loop-t-preserved
loop-t-preserved c =
    let x = c.args in
    replaying_goes _ (typed_narrow _ _ _ c.well_formed.1.0) c.loop-t.invariant c.loop-t-test.true c.kept.ensures
    (part_to_end x.input.now (c.loop-t.t.fed.taken + 1)) c.look_ahead-ready.ensures.ready c.look_ahead-ready.ensures.some
    refl c.put_outcome-at.ensures c.next_line-t.ensures c.count_if-sum.ensures

pub returns : goal.returns
returns c =
    let inv = c.loop-t.invariant in
    let long : length c.args.line.now ≡ max_trace_line + 1 = omega arith in
    let feeds = loop.loop-ends _ inv.lines c.first_line-t.ensures c.loop-t-test.false in
    record {
      fed = feeds;
      whole = feed_whole _ feeds long;
      totals = counted_ends _ _ inv.totals c.first_line-t.ensures (omega arith);
    }
