use Rattle.scan_cursors.proofs.Readings.{preceded_reads}
use Rattle.read_words.proofs.then_flow.Goals as goal

pub returns : goal.returns
returns c = preceded_reads c.requires c.then_word-from.ensures c.then_either_keyword.ensures.reads
