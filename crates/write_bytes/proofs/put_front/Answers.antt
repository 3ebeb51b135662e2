-- The number is kept within the word's length, so a part of the word is put (`taken_most`).
use mathlib.Core.Path.{refl, sym}
use native.Mathlib.Omega.{arith}
use lib.ListN.{length}
use lib.Seq.{length-take-le}
use Rattle.write_bytes.proofs.Clipping.{at_most_le, taken_most}
use Rattle.write_bytes.proofs.Putting.{told}
use Rattle.write_bytes.proofs.put_front.Goals as goal

pub returns : goal.returns
returns c =
    let x = c.args in
    told (taken_most x.n x.w.now refl c.at_most-k.ensures) c.put_word.ensures

pub slice_bounds-put_word-end : goal.slice_bounds-put_word-end
slice_bounds-put_word-end c =
    let x = c.args in
    let k = c.at_most-k.result in
    sym (length-take-le k x.w.now (omega (arith, c.at_most-k.ensures, at_most_le x.n (length x.w.now))))
