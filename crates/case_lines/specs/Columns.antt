-- The answer by the six columns of a line.
use Rattle.std.specs.Prelude.{Bool, ◌&&◌, List, ℕ, if◌then◌else◌}
use Rattle.forms.specs.Bytes.{text}
use Rattle.definitions.specs.Limits.{document_limits}
use Rattle.definitions.specs.Reading.{read}
use Rattle.definitions.specs.Cases.{pairs}
use Rattle.line_numbers.specs.HexPairs.{is_hex}
use Rattle.line_packets.specs.Directions.{is_direction, direction_of}
use Rattle.line_fields.specs.FieldMaps.{is_map, map_of}
use Rattle.case_columns.specs.Queries.{is_query, query_of}
use Rattle.case_lines.specs.CaseAnswers.{reading_text}

-- bytes that the pairs of a column write at most
abbrev pub max_pairs : ℕ
max_pairs = 8192

module _ (origin packet fields decoded query source : List ℕ) where
  unfoldable pub are_columns : Bool
  are_columns = is_direction origin && (is_hex packet && (is_map fields && (is_hex decoded && is_query query)))

  unfoldable pub columns_text : List ℕ
  columns_text =
      if are_columns
      then reading_text (pairs packet) (pairs decoded) (direction_of origin) (map_of fields) (read document_limits source) (query_of query)
      else text "bad"
