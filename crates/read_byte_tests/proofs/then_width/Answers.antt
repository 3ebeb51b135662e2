-- The number is read up to a limit that lets every byte count pass; whether it is one narrows the limit.
use Rattle.scan_cursors.proofs.Readings.{fmap_reads, narrow_reads}
use Rattle.definitions.specs.ByteCounts.{width_of}
use Rattle.read_byte_tests.proofs.Counts.{count_small}
use Rattle.read_byte_tests.proofs.then_width.Goals as goal

pub returns : goal.returns
returns c = rw (c.width_of.ensures, c.limited.ensures, c.is_byte_count.ensures)
    (fmap_reads width_of (narrow_reads count_small c.requires c.then_part-n.ensures.0))
