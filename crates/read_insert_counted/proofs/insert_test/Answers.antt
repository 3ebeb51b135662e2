-- Each return rewrites with the test of the count; the sums fit since the counts make up the number of items.
use borrow.Author.Tests.{le-leb, lt-leb}
use Rattle.read_insert_counted.specs.Counting.{test_inserted}
use Rattle.read_insert_counted.proofs.insert_test.Goals as goal

pub returns-then-st-ge-TESTS : goal.returns-then-st-ge-TESTS
unfolding test_inserted
returns-then-st-ge-TESTS c = simp (le-leb _ _ c.if-st-ge-TESTS.true)

pub returns : goal.returns
unfolding test_inserted
returns c = simp (lt-leb _ _ c.if-st-ge-TESTS.false, c.item_after.ensures)
