use Rattle.replay_laws.specs.Replays.{refused_output}
use Rattle.replay_lines.proofs.put_refused_book.Goals as goal

pub returns : goal.returns
unfolding refused_output
returns c = c.put_refused_book.ensures
