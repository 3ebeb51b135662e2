-- A comma and the start at the loop's place, and what is still to come after it.
use mathlib.Core.Path.{sym, ap, ◌∙◌}
use native.Mathlib.Omega.{arith}
use Rattle.write_bytes.proofs.Putting.{then, onward}
use Prim.Native.Nat.{◌+◌, ◌≤◌}
use lib.ListN.{length, take, drop}
use Rattle.write_bytes.specs.Puts.{puts}
use Rattle.case_lists.specs.AnswerTexts.{starts_after}
use Rattle.case_lists.proofs.Listing.{starts_on, starts_end}
use Rattle.case_lists.proofs.placement_text.put_starts_after.Goals as goal

pub loop-i-preserved : goal.loop-i-preserved
loop-i-preserved c =
    let x = c.args in
    let long : x.n ≤ length x.starts = omega (arith, c.requires) in
    c.loop-i.invariant
    ∙ ap (puts c.loop-i.out c.loop-i.next) (starts_on x.starts x.n c.loop-i.i c.loop-i-test.true long)
    ∙ onward (starts_after (drop (c.loop-i.i + 1) (take x.n x.starts))) (then c.put-next.ensures c.put_start-next.ensures)

pub returns : goal.returns
unfolding puts
returns c =
    let l = c.loop-i in
    let x = c.args in
    record { is = sym (l.invariant ∙ ap (puts l.out l.next) (starts_end x.starts x.n l.i c.loop-i-test.false)) }
