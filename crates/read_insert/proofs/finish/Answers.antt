-- What the code judges of the state is the judgement of any text and options that make it (`checked_right`).
use Rattle.read_insert.proofs.Contracts.{checked_right}
use Rattle.read_insert.proofs.finish.Goals as goal

pub returns : goal.returns
returns c =
    let x = c.args in
    λ s bytes located e h. rw c.judge.ensures (checked_right x.len x.st x.items s bytes located e h)
