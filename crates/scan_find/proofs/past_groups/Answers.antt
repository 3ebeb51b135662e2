-- Group by group: the first b from where the search began is the first one from here on (`group_past`).
use mathlib.Core.Path.{sym, ◌∙◌}
use Rattle.scan_find.proofs.Groups.{group_past}
use Rattle.scan_find.proofs.past_groups.Goals as goal

pub loop-i-preserved : goal.loop-i-preserved
loop-i-preserved c =
    let l = c.loop-i in
    group_past _ _ _ l.i 32 l.invariant (sym c.none_in_group.ensures ∙ c.if-not-none_in_group.false)
