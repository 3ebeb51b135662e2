-- Whether a field is present does not depend on the payload, so it is asked of an empty one.
use Rattle.definitions.specs.Fields.{present}
use mathlib.Core.List.{[]}
use mathlib.Core.Path.{refl}
use Rattle.fields.proofs.is_present.Goals as goal

pub returns : goal.returns
unfolding present
returns c = rw (c.place_of.ensures [] refl) at c.is_at.ensures
