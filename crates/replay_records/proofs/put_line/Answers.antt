-- The line's length, its three tabs, and then its columns: nothing is put where one is of another form, and else the record that they make.
use mathlib.Core.Path.{sym, ◌∙◌}
use native.Mathlib.Omega.{arith}
use Rattle.line_packets.proofs.FourColumns.{failed_packet, parsed_packet_lem, packet_value, hex_packet, hex_decoded}
use Rattle.replay_records.proofs.Lines.{bad_put, long_line, few_tabs, as-columns, good-put}
use Rattle.replay_records.proofs.put_line.Goals as goal

pub returns-then-line-gt-TRACE_BYTES : goal.returns-then-line-gt-TRACE_BYTES
returns-then-line-gt-TRACE_BYTES c =
    let z = bad_put _ (long_line c.args.line.now (omega arith)) in
    record { good = z.0; put = z.1 }

pub returns-then-not-contains : goal.returns-then-not-contains
returns-then-not-contains c =
    let line = c.args.line.now in
    let none = sym c.contains.ensures ∙ c.if-not-contains.true in
    let z = bad_put _ (few_tabs line _ _ (omega arith) c.part_after-r1.ensures c.part_after-r2.ensures none) in
    record { good = z.0; put = z.1 }

pub returns-in_err-located : goal.returns-in_err-located
returns-in_err-located c =
    let some = sym c.contains.ensures ∙ c.if-not-contains.false in
    let is = as-columns _ _ _ c.if-line-gt-TRACE_BYTES.false c.part_after-r1.ensures c.part_after-r2.ensures some
    c.part_before.ensures c.part_before-packet.ensures c.part_before-2.ensures c.part_after-decoded.ensures in
    let z = bad_put _ (is ∙ failed_packet _ _ _ _ (sym c.parse_packet.ensures ∙ c.in_err-located.was)) in
    rw c.from_residual.ensures (record { good = z.0; put = z.1 })

pub put_record-requires : goal.put_record-requires
put_record-requires c =
    let e = sym c.parse_packet.ensures ∙ c.in_ok-located.was in
    (hex_packet _ _ _ _ _ e, hex_decoded _ _ _ _ _ e)

pub returns : goal.returns
returns c =
    let some = sym c.contains.ensures ∙ c.if-not-contains.false in
    let e = sym c.parse_packet.ensures ∙ c.in_ok-located.was in
    let z = good-put _ _ _ c.if-line-gt-TRACE_BYTES.false c.part_after-r1.ensures c.part_after-r2.ensures some
    c.part_before.ensures c.part_before-packet.ensures c.part_before-2.ensures c.part_after-decoded.ensures
    (parsed_packet_lem _ _ _ _ _ e) _ (packet_value _ _ _ _ _ e) c.put_record.ensures in
    record { good = z.0; put = z.1 }
