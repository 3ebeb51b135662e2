-- What a search finds, as a function of a list of placements. Document 01, section "Meaning", its last paragraphs.
use Rattle.std.specs.Prelude.{List, [], ◌∷◌, Option, None, Some}
use Rattle.definitions.specs.declared.packets.Start.{Start}
use Rattle.definitions.specs.declared.packets.Placement.{Placement}
use Rattle.definitions.specs.Answers.{placement_of}

-- the first of a list, or nothing
abbrev pub outcome_of : List (List Start) → Option Placement
outcome_of [] = None
outcome_of (q ∷ qs) = Some (placement_of q)
