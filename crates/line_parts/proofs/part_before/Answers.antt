use mathlib.Core.Path.{sym}
use native.Mathlib.Omega.{arith}
use lib.Seq.{length-take-le}
use Rattle.line_parts.proofs.Delimiters.{find_le, before_is}
use Rattle.line_parts.proofs.part_before.Goals as goal

pub slice_bounds-result-end : goal.slice_bounds-result-end
slice_bounds-result-end c =
    let x = c.args in
    sym (length-take-le c.find-end.result x.s.now (omega (arith, c.find-end.ensures, find_le x.d x.s.now)))

pub returns : goal.returns
returns c = before_is _ _ _ c.find-end.ensures
