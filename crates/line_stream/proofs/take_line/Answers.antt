-- Up to the next LF, or to the end.
use Rattle.line_stream.proofs.Parts.{line_within}
use Rattle.line_stream.proofs.Taking.{takes_end}
use native.Mathlib.Omega.{arith}
use Rattle.line_stream.proofs.take_line.Goals as goal

pub slice_bounds-keep_part-end : goal.slice_bounds-keep_part-end
slice_bounds-keep_part-end c = omega (arith, c.lf_from-end.ensures, line_within c.args.input.now c.args.from c.requires)

pub returns : goal.returns
returns c = takes_end _ _ _ _ c.lf_from-end.ensures c.keep_part-len.ensures c.if-end-input.false
