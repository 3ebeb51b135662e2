-- The starred cases hold on the definitions: one statement over one table, by computation.
use mathlib.Core.Path.{◌≡◌, refl}
use mathlib.Core.Bool.{true}
use Rattle.definitions.specs.Lists.{all?}
use Rattle.definitions.specs.Cases.{cases, known_mistakes, data_at_cases, right}
use Rattle.definitions.specs.Computing.{computing}

pub starred : all? right cases ≡ true
unfolding computing
starred = refl

-- and so do the cases of the slips
pub known_mistakes_avoided : all? right known_mistakes ≡ true
unfolding computing
known_mistakes_avoided = refl

-- and those of data_at from both starting points
pub data_at_cases_lem : all? right data_at_cases ≡ true
unfolding computing
data_at_cases_lem = refl
