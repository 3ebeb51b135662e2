-- The loop keeps what is counted and what is still to come (`Counted`).
use mathlib.Core.Path.{sym, ◌∙◌}
use Rattle.read_references.proofs.Counted.{counted_in, counted_past, counted_on, counted_not, counted_out}
use Rattle.read_references.proofs.usable_count.Goals as goal

pub loop-slot-init : goal.loop-slot-init
loop-slot-init c = counted_in _

pub loop-slot-preserved-in_default : goal.loop-slot-preserved-in_default
loop-slot-preserved-in_default c = counted_past _ _ _ _ c.loop-slot.invariant _ c.loop-slot-test.true c.in_default.not-Pattern

pub returns-then-not-is_usable : goal.returns-then-not-is_usable
returns-then-not-is_usable c =
    counted_not _ _ _ _ c.loop-slot.invariant _ c.loop-slot-test.true _ c.in-Pattern.is (sym c.is_usable.ensures ∙ c.if-not-is_usable.true)

pub loop-slot-preserved : goal.loop-slot-preserved
loop-slot-preserved c =
    rw c.last_after-last.ensures
    (counted_on _ _ _ _ c.loop-slot.invariant _ c.loop-slot-test.true _ c.in-Pattern.is (sym c.is_usable.ensures ∙ c.if-not-is_usable.false))

pub returns : goal.returns
returns c = counted_out _ _ _ _ c.loop-slot.invariant c.loop-slot-test.false
