-- The examples' output is what they say, by computation.
use mathlib.Core.Path.{◌≡◌, refl}
use mathlib.Core.Bool.{true}
use Rattle.definitions.specs.Lists.{all?}
use Rattle.definitions.specs.NumberCases.{agrees}
use Rattle.definitions.specs.Computing.{computing}
use Rattle.line_numbers.specs.HexPairs.{is_hex}
use Rattle.line_fields.specs.FieldMaps.{field_named, is_span, line_span, is_field, insert_field, are_fields, map_from, is_map, map_of}
use Rattle.line_packets.specs.Directions.{is_direction, direction_of}
use Rattle.line_packets.specs.Packets.{is_packet}
use Rattle.replay_laws.specs.Traces.{is_trace_line, trace_record}
use Rattle.replay_laws.specs.Replays.{total_of, outcome, replay_answer, trace_output, refused_output, replay_output}
use Rattle.replay_laws.specs.ReplayCases.{replays, packet_hex, packet_capitals, replay_cases}

pub replay_cases_lem : all? agrees replay_cases ≡ true
unfolding
    computing is_hex field_named is_span line_span is_field insert_field are_fields map_from is_map map_of is_direction direction_of is_packet is_trace_line trace_record total_of
    outcome replay_answer trace_output refused_output replay_output replays packet_hex packet_capitals replay_cases
replay_cases_lem = refl
