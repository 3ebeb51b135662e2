use mathlib.Core.Path.{◌≡◌}
use mathlib.Core.Bool.{true}
use lib.ListN.{drop}
use Rattle.definitions.specs.Windows.{stands_at}
use Rattle.match_patterns.proofs.BytesAtPlace.{left}
use Rattle.match_patterns.proofs.bytes.alike_at.Given as goal

abbrev pub invariant-loop-i : goal.invariant-loop-i
invariant-loop-i l = stands_at true l.b (drop l.at l.f) ≡ left true l.b l.f l.at l.i
