-- The answers to a block always have room in the buffer, three bytes for each.
use Rattle.std.proofs.Common.{◌*◌, ◌≤◌, arith, length, sym}
use Rattle.std.proofs.lemmas.List.{length-take-le}
use Rattle.write_bytes.specs.Puts.{max_counted}
use Rattle.write_bytes.proofs.Putting.{same_length}
use Rattle.block_answers.proofs.Lengths.{answers-within}
use Rattle.blocks.proofs.write_answers.Goals as goal

pub slice_bounds-out-end : goal.slice_bounds-out-end
slice_bounds-out-end g c =
    let put = c.put_answers-put.ensures in
    let few : 3 * length c.args.answers.now ≤ max_counted = omega arith in
    omega (arith, answers-within c.args.packets c.args.answers.now few put, same_length put)

pub slice_bounds-write_all-end : goal.slice_bounds-write_all-end
slice_bounds-write_all-end g c =
    let put = c.put_answers-put.ensures in
    let few : 3 * length c.args.answers.now ≤ max_counted = omega arith in
    sym (length-take-le _ _ (omega (arith, answers-within c.args.packets c.args.answers.now few put, same_length put)))
