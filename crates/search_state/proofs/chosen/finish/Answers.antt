-- No placement is after itself; any other start chosen last has passed the one to pass.
use Rattle.definitions.specs.Lists.{keep}
use Rattle.definitions.specs.Placements.{lex_less}
use Rattle.search_state.specs.Choosing.{answer, extend}
use Rattle.search_state.proofs.chosen.finish.Goals as goal

pub returns-then-on_bound : goal.returns-then-on_bound
unfolding answer keep lex_less
returns-then-on_bound c = λ p. rw c.if-on_bound.true

pub returns-else-on_bound : goal.returns-else-on_bound
unfolding answer keep extend
returns-else-on_bound c = λ p. rw c.if-on_bound.false
