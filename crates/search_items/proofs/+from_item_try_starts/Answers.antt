-- The loop of from_item goes over the items up to the first pattern to be placed; try_starts tries that pattern's starts.
use mathlib.Core.Path.{◌≡◌, sym, ◌∙◌}
use native.Mathlib.Omega.{arith}
use Prim.Native.Nat.{◌+◌}
use lib.ListN.{length}
use borrow.Author.Tests.{not-true, not-false}
use Rattle.definitions.specs.Limits.{max_patterns}
use Rattle.definitions.specs.Placements.{constraints}
use Rattle.match_patterns.proofs.FirstStart.{walk_shorter}
use Rattle.match_items.proofs.Placing.{measured}
use Rattle.search_state.specs.Inputs.{items_left}
use Rattle.search_items.proofs.Stepping.{trying_bounded}
use Rattle.search_items.proofs.PassedItems.{gone_out, gone-test, stop-test, gone-nowhere, stop-nowhere, placed_first}
use Rattle.search_items.proofs.PassedItems.{pattern-inside, pattern-trying}
use Rattle.search_items.proofs.Trials.{try_absent, tried_none, own_fits, chosen_small, chosen-ready, tried_out}
use Rattle.search_items.proofs.Trials.{tried-found, tried-vain, reached}
use Rattle.search_items.proofs.+from_item_try_starts.Goals as goal

pub from_item-returns-then-not-test_holds : goal.from_item-returns-then-not-test_holds
from_item-returns-then-not-test_holds t c =
    stop-test c.loop-i.invariant c.loop-i-test.true c.in_default.not-Pattern c.test_holds.ensures c.if-not-test_holds.true

pub from_item-loop-i-preserved-in_default : goal.from_item-loop-i-preserved-in_default
from_item-loop-i-preserved-in_default t c =
    gone-test c.loop-i.invariant c.loop-i-test.true c.in_default.not-Pattern c.test_holds.ensures c.if-not-test_holds.false

pub from_item-overflow_add-to : goal.from_item-overflow_add-to
from_item-overflow_add-to t c = omega (arith, pattern-inside c.loop-i.invariant c.loop-i-test.true c.in-Pattern.is)

pub from_item-slice_bounds-own-end : goal.from_item-slice_bounds-own-end
from_item-slice_bounds-own-end t c = omega (arith, pattern-inside c.loop-i.invariant c.loop-i-test.true c.in-Pattern.is)

pub from_item-try_starts-requires : goal.from_item-try_starts-requires
from_item-try_starts-requires t c =
    let g = c.loop-i.invariant in
    let more = c.loop-i-test.true in
    (omega (arith, c.decreases, g.on), (more, g.few, pattern-trying g more c.in-Pattern.is (not-true _ c.if-not-p.true)))

pub from_item-returns-then-not-p : goal.from_item-returns-then-not-p
from_item-returns-then-not-p t c =
    placed_first c.loop-i.invariant c.loop-i-test.true c.in-Pattern.is (not-true _ c.if-not-p.true) c.try_starts.result c.try_starts.ensures

pub from_item-returns-then-not-negated_holds : goal.from_item-returns-then-not-negated_holds
from_item-returns-then-not-negated_holds t c =
    let holds = c.negated_holds.ensures c.args.input.header in
    stop-nowhere c.loop-i.invariant c.loop-i-test.true c.in-Pattern.is (not-false _ c.if-not-p.false) holds c.if-not-negated_holds.true

pub from_item-loop-i-preserved : goal.from_item-loop-i-preserved
from_item-loop-i-preserved t c =
    let holds = c.negated_holds.ensures c.args.input.header in
    gone-nowhere c.loop-i.invariant c.loop-i-test.true c.in-Pattern.is (not-false _ c.if-not-p.false) holds c.if-not-negated_holds.false

pub from_item-returns : goal.from_item-returns
from_item-returns t c = gone_out c.loop-i.invariant c.loop-i-test.false c.finish.result (c.finish.ensures _)

pub try_starts-returns-then-not-is_present : goal.try_starts-returns-then-not-is_present
try_starts-returns-then-not-is_present t c =
    let x = c.args in
    let ws = constraints (items_left x.input (x.k + 1)) x.rest.now in
    try_absent x.input.header x.payload.now x.decoded.now x.input.map x.p x.own.now x.last ws x.chosen x.on_bound _
    c.is_present.result c.is_present.ensures c.if-not-is_present.true

pub try_starts-loop-at-init : goal.try_starts-loop-at-init
try_starts-loop-at-init t c =
    let x = c.args in
    let s = x.payload.now in
    let d = x.decoded.now in
    let bounds = trying_bounded (items_left x.input (x.k + 1)) x.rest.now x.p x.own.now s d x.last x.chosen c.requires.2 in
    let small = (measured s d x.input.map x.p x.own.now x.last c.field_of-f.result.now bounds c.field_of-f.ensures.bytes).field in
    let long : length x.input.bound ≡ max_patterns = omega arith in
    reached
    (tried_none (c.requires.0, c.requires.1) c.requires.2 small (omega (arith, c.requires.2.room, long)) c.window-w.ensures
    c.field_of-f.ensures.bytes c.is_present.ensures c.if-not-is_present.false c.start_from-first.ensures)
    c.next_start-at.ensures

pub try_starts-last_after-next-requires : goal.try_starts-last_after-next-requires
try_starts-last_after-next-requires t c = chosen_small c.loop-at.invariant.tried c.loop-at-test.true c.start_at-s.ensures

pub try_starts-from_item-found-requires : goal.try_starts-from_item-found-requires
try_starts-from_item-found-requires t c =
    let o = c.loop-at.invariant.tried in
    let ready = chosen-ready o c.loop-at-test.true c.start_at-s.ensures c.last_after-next.ensures c.with_start-more.ensures in
    (omega (arith, c.decreases, o.few.0), (o.few.1, ready))

pub try_starts-returns-then-is_found : goal.try_starts-returns-then-is_found
try_starts-returns-then-is_found t c =
    let l = c.loop-at.invariant in
    let more = c.loop-at-test.true in
    tried-found l.tried more c.start_at-s.ensures c.last_after-next.ensures c.with_start-more.ensures (l.lies more)
    c.still_on_bound-still.ensures c.from_item-found.ensures (sym c.is_some-is_found.ensures ∙ c.if-is_found.true)

pub try_starts-next_start-at-requires-in-loop-at : goal.try_starts-next_start-at-requires-in-loop-at
try_starts-next_start-at-requires-in-loop-at t c = own_fits c.loop-at.invariant.tried

pub try_starts-loop-at-smaller : goal.try_starts-loop-at-smaller
try_starts-loop-at-smaller t c = walk_shorter _ c.next_start-at-in-loop-at.ensures c.loop-at-test.true

pub try_starts-loop-at-preserved : goal.try_starts-loop-at-preserved
try_starts-loop-at-preserved t c =
    let l = c.loop-at.invariant in
    let more = c.loop-at-test.true in
    reached
    (tried-vain l.tried more c.start_at-s.ensures c.last_after-next.ensures c.with_start-more.ensures (l.lies more)
    c.still_on_bound-still.ensures c.from_item-found.ensures (sym c.is_some-is_found.ensures ∙ c.if-is_found.false))
    c.next_start-at-in-loop-at.ensures

pub try_starts-returns : goal.try_starts-returns
try_starts-returns t c = tried_out c.loop-at.invariant.tried c.loop-at-test.false
