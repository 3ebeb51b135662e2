-- The four columns of a packet, from the answers for each; and what the answer for all tells of them.
use Rattle.std.specs.Prelude.{Some, None}
use mathlib.Core.Path.{◌≡◌, refl, sym}
use mathlib.Core.Bool.{Bool, true, false, false≢true, ◌&&◌}
use mathlib.Core.List.{List}
use Prim.Native.Nat.{ℕ}
use Rattle.forms.proofs.Bools.{both_left, both_right}
use Rattle.definitions.specs.declared.packets.Direction.{Direction}
use Rattle.definitions.specs.declared.packets.FieldMap.{FieldMap}
use Rattle.line_parts.proofs.Results.{failed_test, parsed_test, parsed_value}
use Rattle.line_numbers.specs.HexPairs.{is_hex}
use Rattle.line_packets.specs.declared.packets.PacketColumns.{PacketColumns}
use Rattle.line_packets.specs.Directions.{is_direction, direction_of, parsed_direction}
use Rattle.line_fields.specs.FieldMaps.{is_map, map_of, parsed_map}
use Rattle.line_packets.specs.Packets.{is_packet, packet_of, parsed_packet}

-- ---- what the answers for the direction and for the map tell

direction_apart : (v : Direction) → Some v ≡ None → ⊥
direction_apart v e = false≢true cc

direction_same : (v w : Direction) → Some v ≡ Some w → v ≡ w
direction_same v w e = cc

map_apart : (v : FieldMap) → Some v ≡ None → ⊥
map_apart v e = false≢true cc

map_same : (v w : FieldMap) → Some v ≡ Some w → v ≡ w
map_same v w e = cc

packet_apart : (v : PacketColumns) → Some v ≡ None → ⊥
packet_apart v e = false≢true cc

packet_same : (v w : PacketColumns) → Some v ≡ Some w → v ≡ w
packet_same v w e = cc

-- ---- with a column more, which is of its form or not

and_last : (a b c e h : Bool) → (a && (b && (c && (e && h)))) ≡ ((a && (b && (c && e))) && h)
and_last true true true e h = refl
and_last true true false e h = refl
and_last true false c e h = refl
and_last false b c e h = refl

pub packet_and : (o p f d : List ℕ) (h : Bool) → (is_direction o && (is_hex p && (is_map f && (is_hex d && h)))) ≡ (is_packet o p f d && h)
unfolding is_packet
packet_and o p f d h = and_last (is_direction o) (is_hex p) (is_map f) (is_hex d) h

-- ---- column by column

module _ (o p f d : List ℕ) where
  not_packet : is_packet o p f d ≡ false → None ≡ parsed_packet o p f d
  unfolding parsed_packet
  not_packet e = rw e

  pub no_direction : parsed_direction o ≡ None → None ≡ parsed_packet o p f d
  unfolding parsed_direction is_packet
  no_direction e = not_packet (rw (failed_test Some None direction_apart (is_direction o) (direction_of o) e))

  module _ (v : Direction) (e : parsed_direction o ≡ Some v) where
    first : is_direction o ≡ true
    unfolding parsed_direction
    first = parsed_test Some None direction_apart (is_direction o) (direction_of o) v e

    pub no_bytes : is_hex p ≡ false → None ≡ parsed_packet o p f d
    unfolding is_packet
    no_bytes n = not_packet (rw (first, n))

    module _ (hex : is_hex p ≡ true) where
      pub no-fields-there : parsed_map f ≡ None → None ≡ parsed_packet o p f d
      unfolding parsed_map is_packet
      no-fields-there n = not_packet (rw (first, hex, failed_test Some None map_apart (is_map f) (map_of f) n))

      module _ (m : FieldMap) (u : parsed_map f ≡ Some m) where
        third : is_map f ≡ true
        unfolding parsed_map
        third = parsed_test Some None map_apart (is_map f) (map_of f) m u

        pub no_buffer : is_hex d ≡ false → None ≡ parsed_packet o p f d
        unfolding is_packet
        no_buffer n = not_packet (rw (first, hex, third, n))

        pub one-packet : is_hex d ≡ true → Some (record { direction = v; fields = m }) ≡ parsed_packet o p f d
        unfolding parsed_direction parsed_map parsed_packet is_packet
        one-packet t =
            let from : direction_of o ≡ v = parsed_value Some None direction_apart direction_same (is_direction o) (direction_of o) v e in
            let fields : map_of f ≡ m = parsed_value Some None map_apart map_same (is_map f) (map_of f) m u in
            rw (first, hex, third, t, from, fields)

  -- ---- what the answer tells

  pub failed_packet : parsed_packet o p f d ≡ None → is_packet o p f d ≡ false
  unfolding parsed_packet
  failed_packet e = failed_test Some None packet_apart (is_packet o p f d) (packet_of o p f d) e

  module _ (v : PacketColumns) (e : parsed_packet o p f d ≡ Some v) where
    pub parsed_packet_lem : is_packet o p f d ≡ true
    unfolding parsed_packet
    parsed_packet_lem = parsed_test Some None packet_apart (is_packet o p f d) (packet_of o p f d) v e

    pub packet_value : v ≡ packet_of o p f d
    unfolding parsed_packet
    packet_value = sym (parsed_value Some None packet_apart packet_same (is_packet o p f d) (packet_of o p f d) v e)

    after_direction : (is_hex p && (is_map f && is_hex d)) ≡ true
    unfolding is_packet
    after_direction = both_right (is_direction o) (is_hex p && (is_map f && is_hex d)) parsed_packet_lem

    pub hex_packet : is_hex p ≡ true
    hex_packet = both_left (is_hex p) (is_map f && is_hex d) after_direction

    pub hex_decoded : is_hex d ≡ true
    hex_decoded = both_right (is_map f) (is_hex d) (both_right (is_hex p) (is_map f && is_hex d) after_direction)
