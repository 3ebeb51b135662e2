-- Where some are ready they stay; else the lines are decided anew, from the first.
use Rattle.replay_lines.proofs.Lookahead.{decided_ready}
use Rattle.replay_lines.proofs.look_ahead.Goals as goal

pub returns-then-ahead : goal.returns-then-ahead
returns-then-ahead c =
    record {
      ready = c.requires;
      some = c.if-ahead.true;
    }

pub returns : goal.returns
returns c =
    record {
      ready = decided_ready _ _ c.decide_lines-count.ensures;
      some = c.decide_lines-count.ensures.some;
    }
