-- The invariant is `Counted`: what is counted, with what is still to come, is what the block holds. Each way out of the loop leaves nothing to come.
use mathlib.Core.Path.{sym, ◌∙◌}
use Rattle.guard_packets.proofs.Counts.{counted_all_lem, counted_short, counted-on}
use Rattle.guard_packets.proofs.count_records.Goals as goal

pub returns-in_default : goal.returns-in_default
returns-in_default c = counted_short c.loop-packets.invariant (sym c.in_default.is ∙ c.whole_record.ensures)

pub loop-packets-preserved : goal.loop-packets-preserved
loop-packets-preserved c = counted-on c.loop-packets.invariant (sym c.in-Some.is ∙ c.whole_record.ensures) c.loop-packets-test.true

pub returns : goal.returns
returns c = counted_all_lem c.loop-packets.invariant c.loop-packets-test.false
