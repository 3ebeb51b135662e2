-- The answer by the five columns of a line.
use Rattle.std.specs.Prelude.{Bool, ◌&&◌, List, ℕ, if◌then◌else◌}
use Rattle.forms.specs.Bytes.{text}
use Rattle.definitions.specs.Limits.{document_limits}
use Rattle.definitions.specs.Decisions.{decision}
use Rattle.definitions.specs.Cases.{pairs}
use Rattle.line_numbers.specs.HexPairs.{is_hex}
use Rattle.line_packets.specs.Directions.{is_direction, direction_of}
use Rattle.line_fields.specs.FieldMaps.{is_map, map_of}
use Rattle.decision_lines.specs.DecisionLines.{decision_text}

-- bytes that the pairs of a column write at most
abbrev pub max_pairs : ℕ
max_pairs = 131072

module _ (origin packet fields decoded book : List ℕ) where
  unfoldable pub are_columns : Bool
  are_columns = is_direction origin && (is_hex packet && (is_map fields && (is_hex decoded && is_hex book)))

  unfoldable pub columns_text : List ℕ
  columns_text =
      if are_columns
      then decision_text (decision document_limits (pairs packet) (pairs decoded) (direction_of origin) (map_of fields) (pairs book))
      else text "bad"
