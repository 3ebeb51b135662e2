-- THE TEXT OF AN ANSWER: of one placement, of the list of them, of a refusal. docs/vectors/README.md has it in words; what is due and what the placements
-- are is document 01's, section "Meaning".
use Rattle.std.specs.Prelude.{ℕ, zero, suc, List, [], ◌∷◌, ◌++◌, Result, Ok, Err}
use Rattle.forms.specs.Bytes.{text}
use Rattle.definitions.specs.declared.packets.Start.{Start}
use Rattle.definitions.specs.declared.packets.Placement.{Placement}
use Rattle.definitions.specs.declared.answers.Refusal.{Refusal}
use Rattle.definitions.specs.declared.answers.Found.{Found}
use Rattle.definitions.specs.declared.answers.Found.TheVariants as found
use Rattle.definitions.specs.declared.answers.Answer.{Answer}
use Rattle.definitions.specs.Refusals.{number_of}
use Rattle.definitions.specs.Canonical.{decimal}
use Rattle.definitions.specs.Answers.{starts_of}
use Rattle.match_starts.specs.StartTexts.{start_text}

-- ---- one placement, such as `(2,3)` or `()`

unfoldable pub starts_after : List Start → List ℕ
starts_after [] = []
starts_after (s ∷ q) = text "," ++ (start_text s ++ starts_after q)

abbrev pub starts_text : List Start → List ℕ
starts_text [] = []
starts_text (s ∷ q) = start_text s ++ starts_after q

abbrev pub placement_text : List Start → List ℕ
placement_text q = text "(" ++ (starts_text q ++ text ")")

-- ---- a list of placements: at most 1,000 of them, and `;...` after them where there are more

-- those after the first, of which k are written
unfoldable pub placements_after : ℕ → List (List Start) → List ℕ
placements_after k [] = []
placements_after zero (q ∷ qs) = text ";..."
placements_after (suc k) (q ∷ qs) = text ";" ++ (placement_text q ++ placements_after k qs)

abbrev pub max_after : ℕ
max_after = 999

abbrev pub list_text : List (List Start) → List ℕ
list_text [] = text "none"
list_text (q ∷ qs) = placement_text q ++ placements_after max_after qs

-- ---- refusals, and the answer to one query

abbrev pub refused_text : Refusal → List ℕ
refused_text r = text "refused " ++ decimal (number_of r)

abbrev pub check_text : Result Unit Refusal → List ℕ → List ℕ
check_text (Ok tt) l = l
check_text (Err r) l = refused_text r

abbrev pub found_text : Result Found Refusal → Placement → List ℕ
found_text (Ok found.Placed) h = placement_text (starts_of h)
found_text (Ok found.Nothing) h = text "none"
found_text (Err r) h = refused_text r

abbrev pub answer_text : Answer → List ℕ
answer_text a = found_text a.found a.placement
