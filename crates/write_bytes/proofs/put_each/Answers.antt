-- Byte by byte: what is still to be put from here on is the word from the loop's place on.
use mathlib.Core.Path.{sym, ◌∙◌}
use native.Mathlib.Omega.{arith}
use Rattle.write_bytes.proofs.Putting.{put_on, put_all}
use Rattle.write_bytes.proofs.put_each.Goals as goal

pub loop-b-preserved : goal.loop-b-preserved
loop-b-preserved c =
    let l = c.loop-b in
    l.invariant ∙ put_on l.out l.next c.args.w.now l.b-index (omega arith) c.put-next.ensures

pub returns : goal.returns
returns c =
    let l = c.loop-b in
    record { is = sym (l.invariant ∙ put_all l.out l.next c.args.w.now l.b-index (omega arith)) }
