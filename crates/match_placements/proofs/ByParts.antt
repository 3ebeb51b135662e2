-- By a table's parts: the search looks at no other part of a table, so its list, its first and its next are the table's.
use mathlib.Core.Path.{◌≡◌, refl}
use mathlib.Core.List.{List}
use Prim.Native.Nat.{ℕ}
use Rattle.definitions.specs.declared.table.Table.{Table}
use Rattle.definitions.specs.declared.packets.Direction.{Direction}
use Rattle.definitions.specs.declared.packets.PacketHeader.{PacketHeader}
use Rattle.definitions.specs.declared.packets.FieldMap.{FieldMap}
use Rattle.definitions.specs.declared.packets.Placement.{Placement}
use Rattle.definitions.specs.Placements.{items_of, listed}
use Rattle.search.specs.Searching.{searched_table}
use Rattle.match_placements.specs.Listing.{list_in, first_in_list, next_in_list}

-- what a search looks at of a table
abbrev pub searched_in : Table → Table
searched_in t = searched_table t.protocol t.flow t.items t.count t.bytes

module _ (t : Table) (f : PacketHeader) (s d : List ℕ) (dir : Direction) (m : FieldMap) where
  pub list_by_parts : list_in (searched_in t) f s d dir m ≡ list_in t f s d dir m
  unfolding listed items_of
  list_by_parts = refl

  pub first_by_parts : first_in_list (searched_in t) f s d dir m ≡ first_in_list t f s d dir m
  unfolding first_in_list listed items_of
  first_by_parts = refl

  pub next_by_parts : (h : Placement) → next_in_list (searched_in t) f s d dir m h ≡ next_in_list t f s d dir m h
  unfolding next_in_list listed items_of
  next_by_parts h = refl
