-- What the code does is the definition by steps, and that is right for any options that make the state (`inserted_right`).
use Rattle.read_insert.proofs.OneMore.{sound}
use Rattle.read_insert.proofs.Contracts.{inserted_right}
use Rattle.read_insert.proofs.insert.Goals as goal

pub insert_value-requires : goal.insert_value-requires
insert_value-requires c = sound c.requires.holds

pub returns : goal.returns
returns c = rw c.insert_value.ensures (inserted_right _ _ _ _ _ _)
