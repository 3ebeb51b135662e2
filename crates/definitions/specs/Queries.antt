-- The model of a list of queries, which document 01 calls "asks". Section "Meaning", its last paragraph.
use Rattle.std.specs.Prelude.{List, [], ◌∷◌, ℕ}
use Rattle.definitions.specs.declared.table.Table.{Table}
use Rattle.definitions.specs.declared.packets.Direction.{Direction}
use Rattle.definitions.specs.declared.packets.FieldMap.{FieldMap}
use Rattle.definitions.specs.declared.packets.Placement.{Placement}
use Rattle.definitions.specs.declared.answers.Answer.{Answer}
use Rattle.definitions.specs.declared.answers.Query.{Query}
use Rattle.definitions.specs.declared.answers.Query.TheVariants.{First, Next}
use Rattle.definitions.specs.Answers.{first_answer, next_answer}

module _ (t : Table) (p decoded : List ℕ) (dir : Direction) (m : FieldMap) where
  -- the model holds the placement h, at the start any numbers
  abbrev pub query_answer : Placement → Query → Answer
  query_answer h First = first_answer t p decoded dir m
  query_answer h Next = next_answer t p decoded dir m h

  -- then it holds the answer's placement
  unfoldable pub answers : Placement → List Query → List Answer
  answers h [] = []
  answers h (a ∷ rest) = query_answer h a ∷ answers (query_answer h a).placement rest
