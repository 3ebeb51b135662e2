-- The answer to a book always has room in the buffer.
use Rattle.std.proofs.Common.{arith, sym}
use Rattle.std.proofs.lemmas.List.{length-take-le}
use Rattle.definitions.specs.Limits.{document_limits}
use Rattle.write_bytes.proofs.Putting.{same_length}
use Rattle.book_answers.proofs.Lengths.{answer_within}
use Rattle.blocks.proofs.write_book.Goals as goal

pub slice_bounds-out-end : goal.slice_bounds-out-end
slice_bounds-out-end g c =
    let put = c.answer_book-put.ensures in
    omega (arith, answer_within document_limits _ put, same_length put)

pub slice_bounds-write_all-end : goal.slice_bounds-write_all-end
slice_bounds-write_all-end g c =
    let put = c.answer_book-put.ensures in
    sym (length-take-le _ _ (omega (arith, answer_within document_limits _ put, same_length put)))
