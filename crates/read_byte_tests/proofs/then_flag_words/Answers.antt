use Rattle.read_byte_tests.proofs.FlagWords.{relative_reads, little_reads}
use Rattle.read_byte_tests.proofs.then_flag_words.Goals as goal

pub returns-then-word : goal.returns-then-word
returns-then-word c =
    let i = c.requires in
    relative_reads i c.then_either_word-word.ensures.1 c.then_either_word-word.ensures.0 c.if-word.true c.then_comma_word-little.ensures

pub returns : goal.returns
returns c =
    let i = c.requires in
    little_reads i c.then_either_word-word.ensures.1 c.then_either_word-word.ensures.0 c.if-word.false
