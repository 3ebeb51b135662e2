use Rattle.scan_steps.proofs.EitherWord.{told}
use Rattle.scan_steps.proofs.words.then_either_word.Goals as goal

pub returns : goal.returns
returns c = (c.then_either_keyword.ensures.reads, told _ c.then_either_keyword.ensures.says)
