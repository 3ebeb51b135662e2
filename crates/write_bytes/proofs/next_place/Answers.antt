use native.Mathlib.Numerals.{add-one}
use borrow.Author.Tests.{lt-ltb, le-ltb}
use Rattle.write_bytes.specs.Puts.{max_counted, counted}
use Rattle.write_bytes.proofs.next_place.Goals as goal

pub returns-then-at-lt-COUNTED : goal.returns-then-at-lt-COUNTED
unfolding counted
returns-then-at-lt-COUNTED c = rw (lt-ltb c.args.at max_counted c.if-at-lt-COUNTED.true, add-one)

pub returns-else-at-lt-COUNTED : goal.returns-else-at-lt-COUNTED
unfolding counted
returns-else-at-lt-COUNTED c = rw (le-ltb c.args.at max_counted c.if-at-lt-COUNTED.false)
