-- Twice the number of items left, and one more for from_item, falls at each call. The loop of from_item keeps the answer over the items left, that of
-- try_starts the answer over the starts still to try.
use Prim.Native.Nat.{◌+◌, ◌-◌}
use Rattle.search_items.proofs.PassedItems.{Gone}
use Rattle.search_items.proofs.Trials.{Reached}
use Rattle.search_items.proofs.+from_item_try_starts.Given as goal

abbrev pub decreases-from_item : goal.decreases-from_item
decreases-from_item l = (l.input.count - l.k) + (l.input.count - l.k) + 1

abbrev pub decreases-try_starts : goal.decreases-try_starts
decreases-try_starts l = (l.input.count - l.k) + (l.input.count - l.k)

abbrev pub invariant-from_item-loop-i : goal.invariant-from_item-loop-i
invariant-from_item-loop-i l = Gone l.input l.k l.bytes l.payload l.decoded l.last l.chosen l.on_bound l.i l.from

abbrev pub invariant-try_starts-loop-at : goal.invariant-try_starts-loop-at
invariant-try_starts-loop-at l = Reached l.input l.k l.rest l.payload l.decoded l.last l.chosen l.on_bound l.p l.own l.f l.w.to l.at

abbrev pub decreases-try_starts-loop-at : goal.decreases-try_starts-loop-at
decreases-try_starts-loop-at l = l.w.to - l.at
