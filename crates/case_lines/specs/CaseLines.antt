-- A LINE OF CASES: six columns parted by tabs, for rule writers and for comparison with other programs. docs/vectors/README.md has the form in words. In
-- numbers a tab is 9.
use Rattle.std.specs.Prelude.{ℕ, Bool, ◌&&◌, List, length, leb}
use Rattle.definitions.specs.declared.packets.Direction.{Direction}
use Rattle.definitions.specs.declared.packets.FieldMap.{FieldMap}
use Rattle.definitions.specs.Cases.{pairs}
use Rattle.definitions.specs.Parts.{contains, after_parts, part}
use Rattle.line_numbers.specs.HexPairs.{is_hex}
use Rattle.line_packets.specs.Directions.{is_direction, direction_of}
use Rattle.line_fields.specs.FieldMaps.{is_map, map_of}
use Rattle.case_columns.specs.declared.Query.{Query}
use Rattle.case_columns.specs.Queries.{is_query, query_of}

-- bytes of a line before its LF
abbrev pub max_line : ℕ
max_line = 16384

-- the sixth column is everything after the fifth tab
abbrev pub column : ℕ → List ℕ → List ℕ
column k l = part 9 k l

-- five tabs, and each column of its form; any other line is bad
unfoldable pub is_case : List ℕ → Bool
is_case l =
    leb (length l) max_line && (contains 9 (after_parts 9 4 l)
    && (is_direction (column 0 l) && (is_hex (column 1 l) && (is_map (column 2 l) && (is_hex (column 3 l) && is_query (column 4 l))))))

pub record CaseLine : Type 0 where
  pub direction : Direction
  pub packet : List ℕ
  pub fields : FieldMap
  pub decoded : List ℕ
  pub query : Query
  pub source : List ℕ

unfoldable pub case_of : List ℕ → CaseLine
case_of l =
    record {
      direction = direction_of (column 0 l);
      packet = pairs (column 1 l);
      fields = map_of (column 2 l);
      decoded = pairs (column 3 l);
      query = query_of (column 4 l);
      source = after_parts 9 5 l;
    }
