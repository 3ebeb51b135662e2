-- So many bytes of the part stand after those that were kept.
use Rattle.std.proofs.Common.{rules}
use mathlib.Core.Path.{sym}
use Prim.Native.Nat.{◌+◌, ◌≤◌}
use native.Mathlib.Omega.{arith}
use lib.ListN.{length, length-drop, length-take}
use lib.Seq.{length-take-le}
use Rattle.write_bytes.proofs.Clipping.{at_most_le}
use Rattle.line_stream.proofs.Keeping.{part_within, part_room, part_kept}
use Rattle.line_stream.proofs.keep_part.Goals as goal

pub overflow_sub-line : goal.overflow_sub-line
overflow_sub-line c =
    let x = c.args in
    omega (arith, c.at_most-first.ensures, at_most_le x.len (length x.line.now))

pub overflow_add-first : goal.overflow_add-first
overflow_add-first c =
    let x = c.args in
    omega (arith, part_room x.line.now x.part.now x.len c.at_most-first.ensures c.at_most-n.ensures)

pub slice_bounds-copy_from_slice-end : goal.slice_bounds-copy_from_slice-end
slice_bounds-copy_from_slice-end c =
    let x = c.args in
    let room : c.at_most-first.result + c.at_most-n.result ≤ length x.line.now = part_room x.line.now x.part.now x.len c.at_most-first.ensures c.at_most-n.ensures in
    search rules

pub slice_bounds-copy_from_slice-end-2 : goal.slice_bounds-copy_from_slice-end-2
slice_bounds-copy_from_slice-end-2 c =
    let x = c.args in
    sym (length-take-le c.at_most-n.result x.part.now (part_within x.line.now x.part.now x.len c.at_most-first.ensures c.at_most-n.ensures))

pub copy_from_slice-requires : goal.copy_from_slice-requires
copy_from_slice-requires c =
    let x = c.args in
    let room : c.at_most-first.result + c.at_most-n.result ≤ length x.line.now = part_room x.line.now x.part.now x.len c.at_most-first.ensures c.at_most-n.ensures in
    let within : c.at_most-n.result ≤ length x.part.now = part_within x.line.now x.part.now x.len c.at_most-first.ensures c.at_most-n.ensures in
    simp (length-take, length-drop) (omega arith)

pub returns : goal.returns
returns c =
    let x = c.args in
    part_kept x.line.now x.part.now x.len c.at_most-first.ensures c.at_most-n.ensures (omega arith) c.copy_from_slice.ensures.after
