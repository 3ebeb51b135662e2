-- What is still to be stored falls by a start with each turn.
use mathlib.Core.Path.{◌≡◌, ◌∙◌}
use native.Mathlib.Omega.{arith}
use lib.ListN.{length}
use Rattle.definitions.specs.Limits.{max_patterns}
use Rattle.match_numbers.proofs.Storing.{stores_start}
use Rattle.match_numbers.proofs.put_starts.Goals as goal

pub loop-j-preserved : goal.loop-j-preserved
loop-j-preserved c =
    let x = c.args in
    let l = c.loop-j in
    let n : length x.starts ≡ max_patterns = omega arith in
    let stored = stores_start l.out x.at x.starts l.j c.start_number.result (omega arith) c.start_number.ensures in
    l.invariant ∙ stored
