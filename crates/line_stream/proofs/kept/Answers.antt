-- As much of the buffer as there is.
use mathlib.Core.Path.{refl, sym}
use native.Mathlib.Omega.{arith}
use lib.ListN.{length}
use lib.Seq.{length-take-le}
use Rattle.write_bytes.proofs.Clipping.{at_most_le, taken_most}
use Rattle.line_stream.proofs.kept.Goals as goal

pub slice_bounds-result-end : goal.slice_bounds-result-end
slice_bounds-result-end c =
    let x = c.args in
    let few = at_most_le x.begun.len (length x.line.now) in
    sym (length-take-le c.at_most-len.result x.line.now (omega (arith, c.at_most-len.ensures, few)))

pub returns : goal.returns
returns c = sym (taken_most _ _ refl c.at_most-len.ensures)
