-- What a search has found, as an answer.
use Rattle.std.specs.Prelude.{[], Option, None, Some, Ok}
use Rattle.definitions.specs.declared.packets.Placement.{Placement}
use Rattle.definitions.specs.declared.answers.Found.TheVariants.{Placed, Nothing}
use Rattle.definitions.specs.declared.answers.Answer.{Answer}
use Rattle.definitions.specs.Answers.{placement_of}

abbrev pub answer_of : Option Placement → Answer
answer_of (Some h) = record { found = Ok Placed; placement = h }
answer_of None = record { found = Ok Nothing; placement = placement_of [] }
