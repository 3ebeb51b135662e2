-- Each return rewrites with the test of the number of addresses; the rest is what `insert_test` ensures.
use borrow.Author.Tests.{lt-ltb, le-ltb}
use Rattle.read_insert_counted.specs.Counting.{addresses_inserted}
use Rattle.read_insert_counted.proofs.insert_addresses.Goals as goal

pub returns-then-a-gt-ADDRESSES : goal.returns-then-a-gt-ADDRESSES
unfolding addresses_inserted
returns-then-a-gt-ADDRESSES c = simp (lt-ltb _ _ c.if-a-gt-ADDRESSES.true)

pub returns : goal.returns
unfolding addresses_inserted
returns c = simp (le-ltb _ _ c.if-a-gt-ADDRESSES.false, c.insert_test.ensures)
