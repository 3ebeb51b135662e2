-- Each return rewrites with the test of the count; the stores are those of the definition, and in range by the counts.
use borrow.Author.Tests.{le-leb, lt-leb}
use Rattle.read_insert_counted.specs.Counting.{pattern_inserted}
use Rattle.read_insert_counted.proofs.insert_pattern.Goals as goal

pub returns-then-st-ge-PATTERNS : goal.returns-then-st-ge-PATTERNS
unfolding pattern_inserted
returns-then-st-ge-PATTERNS c = simp (le-leb _ _ c.if-st-ge-PATTERNS.true)

pub returns : goal.returns
unfolding pattern_inserted
returns c = simp (lt-leb _ _ c.if-st-ge-PATTERNS.false, c.bare_pattern.ensures, c.item_after.ensures)
