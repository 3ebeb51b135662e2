-- The starts passed are held in the array; what is still to come stays the same from turn to turn.
use Rattle.std.proofs.Common.{rules}
use mathlib.Core.Path.{sym, ◌∙◌}
use native.Mathlib.Omega.{arith}
use borrow.Author.Tests.{tests}
use Rattle.line_parts.proofs.PartsFrom.{from_start, from_step, from_end}
use Rattle.case_columns.proofs.Starts.{no_starts, starting, starting_halt, starting_full, starting_on, starting_out}
use Rattle.case_columns.proofs.parse_starts.Goals as goal

pub returns-then-is_empty : goal.returns-then-is_empty
returns-then-is_empty c = no_starts _ (search (rules, tests))

pub loop-at-init : goal.loop-at-init
loop-at-init c = (_, starting _ (search (rules, tests)) _ (sym (from_start 44 c.args.s.now)))

pub returns-in_err-n : goal.returns-in_err-n
returns-in_err-n c =
    let step = from_step 44 c.args.s.now c.loop-at.at c.loop-at-test.true _ c.part_before-e.ensures in
    c.from_residual.ensures ∙ starting_halt _ _ _ _ _ c.loop-at.invariant.1 _ _ step _ c.parse_decimal.ensures c.in_err-n.was

pub returns-then-count-ge-PATTERNS : goal.returns-then-count-ge-PATTERNS
returns-then-count-ge-PATTERNS c =
    let step = from_step 44 c.args.s.now c.loop-at.at c.loop-at-test.true _ c.part_before-e.ensures in
    starting_full _ _ _ _ _ c.loop-at.invariant.1 _ _ step _ c.parse_decimal.ensures c.if-count-ge-PATTERNS.true

pub loop-at-preserved : goal.loop-at-preserved
loop-at-preserved c =
    let step = from_step 44 c.args.s.now c.loop-at.at c.loop-at-test.true _ c.part_before-e.ensures in
    (_, starting_on _ _ _ _ _ c.loop-at.invariant.1 _ _ step _ c.parse_decimal.ensures _ c.in_ok-n.was c.if-count-ge-PATTERNS.false _ c.start_at.ensures)

pub returns : goal.returns
returns c = starting_out _ _ _ _ _ c.loop-at.invariant.1 (from_end 44 c.args.s.now c.loop-at.at (omega arith))
