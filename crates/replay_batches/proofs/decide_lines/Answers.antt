-- What is gathered is decided as a block, and its numbers are given to the good lines (`gathered_decides`).
use native.Mathlib.Omega.{arith}
use Rattle.definitions.specs.Limits.{document_limits}
use Rattle.definitions.specs.LoadedBooks.{rules_in}
use Rattle.replay_batches.proofs.Deciding.{gathered_decides}
use Rattle.replay_batches.proofs.decide_lines.Goals as goal

pub returns : goal.returns
returns c =
    let x = c.args in
    gathered_decides document_limits (rules_in x.book.now x.rules) x.numbers.now c.gather-g.ensures c.decide_block.ensures.numbers
    (omega arith) c.number_lines.ensures (omega arith)
