-- Each number of refusal is given with its place or effect, as document 01 has them: one statement over one table, by computation. So no two
-- numbers can be exchanged, and met, found, count and starts are what they are said to be.
use mathlib.Core.Path.{◌≡◌, refl}
use mathlib.Core.Bool.{true, ◌&&◌}
use Rattle.definitions.specs.Lists.{all?}
use Rattle.definitions.specs.NumberCases.{agrees, shown_in, refusal_numbers, number_cases}
use Rattle.definitions.specs.PlaceCases.{form_places, limit_places}
use Rattle.definitions.specs.Computing.{computing}

-- what is said of each example is what the definitions give, and every number is among them
pub every_number_lem : (all? agrees number_cases && all? (shown_in number_cases) refusal_numbers) ≡ true
unfolding computing
every_number_lem = refl

-- 6 and 7 are placed as document 02 has it, and what stands beside them keeps its place
pub form_places_lem : all? agrees form_places ≡ true
unfolding computing
form_places_lem = refl

pub limit_places_lem : all? agrees limit_places ≡ true
unfolding computing
limit_places_lem = refl
