-- The query, then the columns of the packet: `bad` where one is of another form.
use mathlib.Core.Path.{sym, ◌∙◌}
use Rattle.write_bytes.proofs.Putting.{told}
use Rattle.line_packets.proofs.FourColumns.{failed_packet, parsed_packet_lem, packet_value, hex_packet, hex_decoded}
use Rattle.case_columns.proofs.Queries.{failed_query, parsed_query_lem, query_value}
use Rattle.case_lines.proofs.Columns.{no_query_lem, no_packet, good_columns}
use Rattle.case_lines.proofs.answers.put_columns.Goals as goal

pub returns-in_default : goal.returns-in_default
returns-in_default c = told
    (no_query_lem _ _ _ _ _ _ (failed_query _ (sym c.parse_query.ensures ∙ c.in_default.is)))
    c.put_word.ensures

pub returns-in_default-parse_packet : goal.returns-in_default-parse_packet
returns-in_default-parse_packet c = told
    (no_packet _ _ _ _ _ _ (failed_packet _ _ _ _ (sym c.parse_packet.ensures ∙ c.in_default-parse_packet.is)))
    c.put_word-in_default-parse_packet.ensures

pub put_formed-requires : goal.put_formed-requires
put_formed-requires c =
    let e = sym c.parse_packet.ensures ∙ c.in-Some-parse_packet.is in
    (hex_packet _ _ _ _ _ e, hex_decoded _ _ _ _ _ e, c.requires.0, c.requires.1)

pub returns : goal.returns
returns c =
    let q = sym c.parse_query.ensures ∙ c.in-Some.is in
    let e = sym c.parse_packet.ensures ∙ c.in-Some-parse_packet.is in
    told
    (good_columns _ _ _ _ _ _ (parsed_query_lem _ _ q) (parsed_packet_lem _ _ _ _ _ e) _ (packet_value _ _ _ _ _ e) _ (query_value _ _ q))
    c.put_formed.ensures
