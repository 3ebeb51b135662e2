-- A LINE OF A TRACE: where a packet comes from, tab, the packet, tab, its map, tab, its decoded buffer. Document 02, T-05. In numbers a tab is 9.
use Rattle.std.specs.Prelude.{ℕ, Bool, ◌&&◌, List, length, leb}
use Rattle.definitions.specs.Parts.{contains, after_parts, part}
use Rattle.definitions.specs.Cases.{pairs}
use Rattle.definitions.specs.Blocks.{PacketRecord}
use Rattle.line_packets.specs.Directions.{direction_of}
use Rattle.line_packets.specs.Packets.{is_packet}
use Rattle.line_fields.specs.FieldMaps.{map_of}

-- bytes of a line before its LF
abbrev pub max_trace_line : ℕ
max_trace_line = 16384

-- four columns, each of its form; the fourth is everything after the third tab, and no form has a tab in it. Any other line is bad
unfoldable pub is_trace_line : List ℕ → Bool
is_trace_line l =
    leb (length l) max_trace_line && (contains 9 (after_parts 9 2 l)
    && is_packet (part 9 0 l) (part 9 1 l) (part 9 2 l) (after_parts 9 3 l))

-- what it says of its packet
unfoldable pub trace_record : List ℕ → PacketRecord
trace_record l =
    record {
      packet = pairs (part 9 1 l);
      decoded = pairs (after_parts 9 3 l);
      direction = direction_of (part 9 0 l);
      fields = map_of (part 9 2 l);
    }
