-- The list of placements, its first and its next, by what is left of a packet once 20 and 30 to 34 are tested: its header fields f, its payload s and the
-- decoded
-- buffer d. Document 01, section "Meaning".
use Rattle.std.specs.Prelude.{List, ℕ}
use Rattle.definitions.specs.declared.table.Table.{Table}
use Rattle.definitions.specs.declared.packets.Direction.{Direction}
use Rattle.definitions.specs.declared.packets.PacketHeader.{PacketHeader}
use Rattle.definitions.specs.declared.packets.FieldMap.{FieldMap}
use Rattle.definitions.specs.declared.packets.Start.{Start}
use Rattle.definitions.specs.declared.packets.Placement.{Placement}
use Rattle.definitions.specs.declared.answers.Answer.{Answer}
use Rattle.definitions.specs.Lists.{keep}
use Rattle.definitions.specs.Refusals.{and_then}
use Rattle.definitions.specs.Fields.{fields_check}
use Rattle.definitions.specs.Placements.{lex_less, listed}
use Rattle.definitions.specs.Answers.{starts_of, head_of, unless, earlier_check}
use Rattle.fields.specs.Seen.{seen}

module _ (t : Table) (f : PacketHeader) (s d : List ℕ) (dir : Direction) (m : FieldMap) where
  abbrev pub list_in : List (List Start)
  list_in = listed t (seen f s d m) dir

  -- 35, or the first of the list, or none
  unfoldable pub first_in_list : Answer
  first_in_list = unless (fields_check s d m) (head_of list_in)

  -- 35, then 36, which looks at the table alone; or the least of the list after the placement held, or none
  unfoldable pub next_in_list : Placement → Answer
  next_in_list h = unless (and_then (fields_check s d m) (earlier_check t s d dir m h)) (head_of (keep (lex_less (starts_of h)) list_in))
