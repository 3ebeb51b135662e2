-- Each return rewrites with what the callees ensure of the tests that led there; where 32 is not due the datagram lies in the packet.
use Prim.Native.Nat.{ℕ}
use lib.ListN.{take}
use Rattle.definitions.specs.Packet.{packet_check, packet_answer}
use Rattle.packet.specs.Datagram.{datagram_answer}
use Rattle.laws.proofs.Numbers.{packet_told}
use mathlib.Core.Path.{sym, ap, ◌∙◌}
use Rattle.packet.proofs.packet_header.Goals as goal

pub returns-then-buffer_too_long : goal.returns-then-buffer_too_long
unfolding packet_answer packet_check
returns-then-buffer_too_long c =
    let x = c.args in
    let z = packet_told x.p.now x.decoded.now (rw (sym c.buffer_too_long.ensures ∙ c.if-buffer_too_long.true)) in
    record { answer = z.0; numbers = z.1 }

pub returns-then-not_ipv4 : goal.returns-then-not_ipv4
unfolding packet_answer packet_check
returns-then-not_ipv4 c =
    let x = c.args in
    let z = packet_told x.p.now x.decoded.now
    (rw (sym c.buffer_too_long.ensures ∙ c.if-buffer_too_long.false, sym c.not_ipv4.ensures ∙ c.if-not_ipv4.true)) in
    record { answer = z.0; numbers = z.1 }

pub returns-then-wrong_lengths : goal.returns-then-wrong_lengths
unfolding packet_answer packet_check
returns-then-wrong_lengths c =
    let x = c.args in
    let z = packet_told x.p.now x.decoded.now (rw (
      sym c.buffer_too_long.ensures
          ∙ c.if-buffer_too_long.false,
      sym c.not_ipv4.ensures
          ∙ c.if-not_ipv4.false,
      sym c.wrong_lengths.ensures ∙ c.if-wrong_lengths.true,
    )) in
    record { answer = z.0; numbers = z.1 }

pub returns : goal.returns
unfolding packet_answer packet_check datagram_answer
returns c =
    let x = c.args in
    let p = x.p.now in
    let d = ap (λ (n : ℕ). take n p) c.total_length.ensures in
    let z = packet_told p x.decoded.now (rw (
      sym c.buffer_too_long.ensures
          ∙ c.if-buffer_too_long.false,
      sym c.not_ipv4.ensures
          ∙ c.if-not_ipv4.false,
      sym c.wrong_lengths.ensures
          ∙ c.if-wrong_lengths.false,
    ) (c.datagram_header.ensures ∙ ap datagram_answer d)) in
    record { answer = z.0; numbers = z.1 }
