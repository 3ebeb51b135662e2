-- What is still to be put is the text of the bytes from the loop's place on.
use mathlib.Core.Path.{◌≡◌}
use mathlib.Core.Bool.{false}
use lib.ListN.{drop}
use Rattle.definitions.specs.Canonical.{pattern_text}
use Rattle.write_bytes.specs.Puts.{puts}
use Rattle.write_pattern_bytes.proofs.put_bytes.Given as goal

abbrev pub invariant-loop-x : goal.invariant-loop-x
invariant-loop-x l = puts l.initial.out l.initial.next (pattern_text false l.b) ≡ puts l.out l.next (pattern_text l.opened (drop l.x-index l.b))
