-- What changed always has room in the buffer.
use Rattle.std.proofs.Common.{arith, sym}
use Rattle.std.proofs.lemmas.List.{length-take-le}
use Rattle.definitions.specs.Limits.{document_limits}
use Rattle.write_bytes.proofs.Putting.{same_length}
use Rattle.compare_books.proofs.Lengths.{compare_within}
use Rattle.compare.proofs.write_changes.Goals as goal

pub slice_bounds-out-end : goal.slice_bounds-out-end
slice_bounds-out-end g c =
    let put = c.compare-put.ensures in
    omega (arith, compare_within document_limits _ _ put, same_length put)

pub slice_bounds-write_all-end : goal.slice_bounds-write_all-end
slice_bounds-write_all-end g c =
    let put = c.compare-put.ensures in
    sym (length-take-le _ _ (omega (arith, compare_within document_limits _ _ put, same_length put)))
