use mathlib.Core.Path.{◌≡◌}
use Rattle.guard_numbers.specs.OpenNumbers.{closed}
use Rattle.guard_numbers.proofs.Fronts.{front}
use Rattle.guard_numbers.proofs.close_all.Given as goal

abbrev pub invariant-loop-number : goal.invariant-loop-number
invariant-loop-number l = l.number-items ≡ front closed l.number-index l.initial.number-items
