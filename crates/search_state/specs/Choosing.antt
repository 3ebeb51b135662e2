-- The starts chosen so far, and the first of the placements of the items left. Document 01, section "Meaning", its last paragraphs.
use Rattle.std.specs.Prelude.{ℕ, ◌+◌, max, Bool, true, false, List, [], ◌∷◌, set, Option, None, Some}
use Rattle.definitions.specs.declared.packets.Start.{Start}
use Rattle.definitions.specs.declared.packets.Placement.{Placement}
use Rattle.definitions.specs.Lists.{keep}
use Rattle.definitions.specs.Placements.{lex_less}

-- a placement with a start more, and with the starts q after its own
abbrev pub push : Placement → Start → Placement
push chosen s = record { count = chosen.count + 1; starts = set chosen.starts chosen.count s }

unfoldable pub extend : Placement → List Start → Placement
extend chosen [] = chosen
extend chosen (s ∷ q) = extend (push chosen s) q

-- the first of a list, its starts after those in chosen
abbrev pub first_of : Placement → List (List Start) → Option Placement
first_of chosen [] = None
first_of chosen (q ∷ qs) = Some (extend chosen q)

-- q is after p, where that is asked: "next" asks it, "first" and the verdict don't
abbrev pub after_if : Bool → List Start → List Start → Bool
after_if true p q = lex_less p q
after_if false p q = true

-- the first of the list ps, after p where on the bound: the starts in chosen are then those of the placement to pass
unfoldable pub answer : Placement → Bool → List Start → List (List Start) → Option Placement
answer chosen on-bound p ps = first_of chosen (keep (after_if on-bound p) ps)

-- the first outcome, or the second where the first is nothing
abbrev pub found_or : Option Placement → Option Placement → Option Placement
found_or (Some h) g = Some h
found_or None g = g

-- where the first start worth a try is, where the placement to pass has a here
abbrev pub start_from : Bool → Start → ℕ → ℕ
start_from true a from = max a.at from
start_from false a from = from
