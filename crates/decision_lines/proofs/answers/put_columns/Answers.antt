-- The book, then the columns of the packet: `bad` where one is of another form.
use mathlib.Core.Path.{sym, ◌∙◌}
use Rattle.write_bytes.proofs.Putting.{told}
use Rattle.line_packets.proofs.FourColumns.{failed_packet, parsed_packet_lem, packet_value, hex_packet, hex_decoded}
use Rattle.decision_lines.proofs.Columns.{no_book, no_packet, good_columns}
use Rattle.decision_lines.proofs.answers.put_columns.Goals as goal

pub returns-then-not-is_hex_pairs : goal.returns-then-not-is_hex_pairs
returns-then-not-is_hex_pairs c = told
    (no_book _ _ _ _ _ (sym c.is_hex_pairs.ensures ∙ c.if-not-is_hex_pairs.true))
    c.put_word.ensures

pub returns-in_default : goal.returns-in_default
returns-in_default c = told
    (no_packet _ _ _ _ _ (failed_packet _ _ _ _ (sym c.parse_packet.ensures ∙ c.in_default.is)))
    c.put_word-in_default.ensures

pub put_formed-requires : goal.put_formed-requires
put_formed-requires c =
    let e = sym c.parse_packet.ensures ∙ c.in-Some.is in
    let hex-book = sym c.is_hex_pairs.ensures ∙ c.if-not-is_hex_pairs.false in
    (hex_packet _ _ _ _ _ e, hex_decoded _ _ _ _ _ e, hex-book, c.requires.0, c.requires.1, c.requires.2)

pub returns : goal.returns
returns c =
    let e = sym c.parse_packet.ensures ∙ c.in-Some.is in
    let hex-book = sym c.is_hex_pairs.ensures ∙ c.if-not-is_hex_pairs.false in
    told (good_columns _ _ _ _ _ hex-book (parsed_packet_lem _ _ _ _ _ e) _ (packet_value _ _ _ _ _ e)) c.put_formed.ensures
