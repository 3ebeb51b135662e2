use mathlib.Core.Path.{◌≡◌, ap, ◌∙◌}
use native.Mathlib.Omega.{arith}
use Rattle.write_bytes.proofs.Putting.{then, told, none_put}
use Prim.Native.Nat.{◌≤◌, ◌<◌}
use lib.ListN.{length}
use Rattle.definitions.specs.Limits.{max_patterns}
use Rattle.write_bytes.proofs.Clipping.{at_most_le, taken_most}
use Rattle.case_lists.specs.AnswerTexts.{starts_text}
use Rattle.case_lists.proofs.Listing.{starts_none, starts_first}
use Rattle.case_lists.proofs.placement_text.put_starts.Goals as goal

pub returns-then-n-eq0 : goal.returns-then-n-eq0
returns-then-n-eq0 c =
    let long : length c.args.starts ≡ max_patterns = omega arith in
    told (ap starts_text (taken_most c.args.count c.args.starts long c.at_most-n.ensures) ∙ starts_none _ _ c.if-n-eq0.true) none_put

pub put_starts_after-requires : goal.put_starts_after-requires
put_starts_after-requires c = omega (arith, c.at_most-n.ensures, at_most_le c.args.count max_patterns)

pub returns : goal.returns
returns c =
    let x = c.args in
    let most = c.at_most-n.result in
    let long : length x.starts ≡ max_patterns = omega arith in
    let some : 0 < most = omega (arith, c.if-n-eq0.false) in
    let room : most ≤ length x.starts = omega (arith, long, c.at_most-n.ensures, at_most_le x.count max_patterns) in
    told (ap starts_text (taken_most x.count x.starts long c.at_most-n.ensures) ∙ starts_first x.starts most some room)
    (then c.put_start-next.ensures c.put_starts_after.ensures)
