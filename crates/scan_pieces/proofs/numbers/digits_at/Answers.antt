use native.Mathlib.Omega.{arith}
use Rattle.scan_pieces.proofs.Bounding.{no_digits, digits_within_lem, digits_beyond}
use Rattle.scan_pieces.proofs.Gaps.{run_end}
use Rattle.scan_pieces.proofs.numbers.digits_at.Goals as goal

pub returns-then-end-at : goal.returns-then-end-at
returns-then-end-at c = (no_digits _ _ _ _ _ _ 0 c.requires.0 c.run_of-end.ensures c.if-end-at.true _, omega arith)

pub value_of-value-requires : goal.value_of-value-requires
value_of-value-requires c =
    let end = run_end _ _ _ _ c.requires.0 c.run_of-end.ensures in
    (let e = c.run_of-end.ensures in omega arith, end, c.requires.2, c.requires.3)

pub returns-then-value-limit : goal.returns-then-value-limit
returns-then-value-limit c =
    let some = c.if-end-at.false in
    (digits_within_lem _ _ _ _ _ _ _ c.requires.0 c.run_of-end.ensures some c.requires.1 c.value_of-value.ensures c.if-value-limit.true, c.if-value-limit.true)

pub returns-else-value-limit : goal.returns-else-value-limit
returns-else-value-limit c =
    let some = c.if-end-at.false in
    (digits_beyond _ _ _ _ _ _ _ c.requires.0 c.run_of-end.ensures some c.requires.1 c.value_of-value.ensures c.if-value-limit.false _, omega arith)
