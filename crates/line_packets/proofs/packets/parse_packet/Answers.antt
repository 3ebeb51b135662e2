-- Column by column: those before were of their form.
use mathlib.Core.Path.{sym, ◌∙◌}
use Rattle.line_packets.proofs.FourColumns.{no_direction, no_bytes, no-fields-there, no_buffer, one-packet}
use Rattle.line_packets.proofs.packets.parse_packet.Goals as goal

pub returns-in_err-direction : goal.returns-in_err-direction
returns-in_err-direction c = c.from_residual.ensures ∙ no_direction _ _ _ _ (sym c.parse_direction.ensures ∙ c.in_err-direction.was)

pub returns-then-not-is_hex_pairs : goal.returns-then-not-is_hex_pairs
returns-then-not-is_hex_pairs c = no_bytes _ _ _ _ _ (sym c.parse_direction.ensures ∙ c.in_ok-direction.was)
    (sym c.is_hex_pairs.ensures ∙ c.if-not-is_hex_pairs.true)

pub returns-in_err-fields : goal.returns-in_err-fields
returns-in_err-fields c = c.from_residual-in_err-fields.ensures
    ∙ no-fields-there _ _ _ _ _ (sym c.parse_direction.ensures ∙ c.in_ok-direction.was)
    (sym c.is_hex_pairs.ensures ∙ c.if-not-is_hex_pairs.false) (sym c.parse_map.ensures ∙ c.in_err-fields.was)

pub returns-then-not-is_hex_pairs-2 : goal.returns-then-not-is_hex_pairs-2
returns-then-not-is_hex_pairs-2 c = no_buffer _ _ _ _ _ (sym c.parse_direction.ensures ∙ c.in_ok-direction.was)
    (sym c.is_hex_pairs.ensures ∙ c.if-not-is_hex_pairs.false) _ (sym c.parse_map.ensures ∙ c.in_ok-fields.was)
    (sym c.is_hex_pairs-2.ensures ∙ c.if-not-is_hex_pairs-2.true)

pub returns : goal.returns
returns c = one-packet _ _ _ _ _ (sym c.parse_direction.ensures ∙ c.in_ok-direction.was)
    (sym c.is_hex_pairs.ensures ∙ c.if-not-is_hex_pairs.false) _ (sym c.parse_map.ensures ∙ c.in_ok-fields.was)
    (sym c.is_hex_pairs-2.ensures ∙ c.if-not-is_hex_pairs-2.false)
