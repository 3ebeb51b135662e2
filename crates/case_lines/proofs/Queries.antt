-- The query's answer by the arms of a `match`.
use mathlib.Core.Path.{◌≡◌, ap}
use mathlib.Core.List.{List}
use Prim.Native.Nat.{ℕ}
use Rattle.definitions.specs.declared.table.Table.{Table}
use Rattle.definitions.specs.declared.packets.Direction.{Direction}
use Rattle.definitions.specs.declared.packets.FieldMap.{FieldMap}
use Rattle.case_columns.specs.declared.Query.{Query}
use Rattle.case_lines.specs.CaseAnswers.{query_text}

pub queried : (p decoded : List ℕ) (dir : Direction) (m : FieldMap) (t : Table) {a b : Query} → a ≡ b
    → query_text p decoded dir m t a ≡ query_text p decoded dir m t b
queried p decoded dir m t e = ap (query_text p decoded dir m t) e
