use Prim.Native.Nat.{◌+◌}
use mathlib.Core.Path.{◌∙◌}
use native.Mathlib.Omega.{arith}
use borrow.Author.Rules.{part_to_end}
use Rattle.line_parts.proofs.Delimiters.{find_le, after_is, after_none}
use Rattle.line_parts.proofs.part_after.Goals as goal

pub returns-then-end-s : goal.returns-then-end-s
returns-then-end-s c =
    let found = c.find-end in
    part_to_end c.args.s.now (found.result + 1) ∙ after_is _ _ _ found.ensures

pub slice_bounds-result-count-2 : goal.slice_bounds-result-count-2
slice_bounds-result-count-2 c = omega (arith, c.find-end.ensures, find_le c.args.d c.args.s.now)

pub slice_bounds-result-start-2 : goal.slice_bounds-result-start-2
slice_bounds-result-start-2 c = omega (arith, c.find-end.ensures, find_le c.args.d c.args.s.now)

pub returns : goal.returns
returns c =
    let found = c.find-end in
    part_to_end c.args.s.now found.result ∙ after_none _ _ _ found.ensures c.if-end-s.false
