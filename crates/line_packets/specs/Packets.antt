-- THE FOUR COLUMNS OF A PACKET: where it comes from, its bytes, the map of its fields, the bytes of its decoded buffer.
use Rattle.std.specs.Prelude.{ℕ, Bool, ◌&&◌, List, if◌then◌else◌, Option, Some, None}
use Rattle.line_numbers.specs.HexPairs.{is_hex}
use Rattle.line_packets.specs.declared.packets.PacketColumns.{PacketColumns}
use Rattle.line_packets.specs.Directions.{is_direction, direction_of}
use Rattle.line_fields.specs.FieldMaps.{is_map, map_of}

module _ (origin packet fields decoded : List ℕ) where
  unfoldable pub is_packet : Bool
  is_packet = is_direction origin && (is_hex packet && (is_map fields && is_hex decoded))

  -- what is said beside the bytes
  abbrev pub packet_of : PacketColumns
  packet_of = record { direction = direction_of origin; fields = map_of fields }

  -- the code's answer
  unfoldable pub parsed_packet : Option PacketColumns
  parsed_packet = if is_packet then Some packet_of else None
