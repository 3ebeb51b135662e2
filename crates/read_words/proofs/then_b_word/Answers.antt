use Rattle.scan_cursors.proofs.Readings.{preceded_reads}
use Rattle.read_words.proofs.then_b_word.Goals as goal

pub returns : goal.returns
returns c = preceded_reads c.requires c.then_word-b.ensures c.then_either_keyword.ensures.reads
