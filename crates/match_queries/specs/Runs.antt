-- A run of queries over a lent buffer: the answers of the model, as numbers, one answer after the other. Section "Meaning", its last paragraph.
use Rattle.std.specs.Prelude.{ℕ, zero, suc, ◌*◌, Bool, List, [], ◌∷◌, ◌++◌, map, length, drop, leb, if◌then◌else◌}
use Rattle.definitions.specs.declared.table.Table.{Table}
use Rattle.definitions.specs.declared.packets.Direction.{Direction}
use Rattle.definitions.specs.declared.packets.FieldMap.{FieldMap}
use Rattle.definitions.specs.declared.packets.Placement.{Placement}
use Rattle.definitions.specs.declared.answers.Answer.{Answer}
use Rattle.definitions.specs.declared.answers.Query.{Query}
use Rattle.definitions.specs.declared.answers.Query.TheVariants.{First, Next}
use Rattle.definitions.specs.AnswerNumbers.{answer_numbers}
use Rattle.definitions.specs.Queries.{answers}
use Rattle.match_numbers.specs.Numbers.{numbers_of_one}

-- a query is a byte: 0 is "first", any other "next"
abbrev pub query_of_byte : ℕ → Query
query_of_byte zero = First
query_of_byte (suc a) = Next

unfoldable pub all_numbers : List Answer → List ℕ
all_numbers [] = []
all_numbers (a ∷ rest) = answer_numbers a ++ all_numbers rest

-- the buffer has room for the numbers of all answers
abbrev pub room : List ℕ → List ℕ → Bool
room queries out = leb (length queries * numbers_of_one) (length out)

-- the buffer afterwards: all answers, and after them what stood there; with no room for them all as it was
unfoldable pub written : Table → List ℕ → List ℕ → Direction → FieldMap → Placement → List ℕ → List ℕ → List ℕ
written t p decoded dir m h queries out =
    if room queries out
    then all_numbers (answers t p decoded dir m h (map query_of_byte queries)) ++ drop (length queries * numbers_of_one) out
    else out
