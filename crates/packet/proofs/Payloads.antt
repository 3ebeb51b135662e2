-- Where no refusal is due, the bytes from the payload's start up to the total length are the datagram's payload: the header lies in the datagram, the
-- transport header too, so reading in the datagram and in the packet are one, and nothing of the part is padding.
use Rattle.std.specs.Prelude.{Result, Ok, Err}
use mathlib.Core.Path.{◌≡◌, refl, sym, ap, ◌∙◌}
use mathlib.Core.Bool.{Bool, true, false, not, ◌||◌}
use mathlib.Core.List.{List, [], ◌∷◌}
use Prim.Native.Nat.{ℕ, zero, suc, ◌+◌, ◌*◌, ◌-◌, ◌%◌, ◌≤◌}
use native.Mathlib.Nat.{sub-zero, zero-sub, suc-sub-suc}
use native.Mathlib.Omega.{arith}
use lib.ListN.{length, take, drop, length-drop}
use lib.Seq.{length-take-le}
use lib.Dec.{ltb, eqb}
use borrow.Author.Tests.{ltb-false, le-ltb}
use Rattle.forms.proofs.Bools.{by_cases}
use Rattle.definitions.specs.declared.packets.PacketHeader.{PacketHeader}
use Rattle.definitions.specs.declared.answers.Refusal.TheVariants as refusal
use Rattle.definitions.specs.declared.answers.Refusal.{Refusal}
use Rattle.definitions.specs.Limits.{max_packet, max_decoded}
use Rattle.definitions.specs.Refusals.{refuse_if}
use Rattle.definitions.specs.Packet.{version_of, is_fragment, header_words, header_length, total_length, protocol_of, datagram_of, after_header, is_tcp}
use Rattle.definitions.specs.Packet.{is_udp, is_icmp, tcp_words, tcp_short, transport_length, transport_short, header_of, payload_of, packet_check, packet_by}
use Rattle.definitions.specs.Packet.{packet_answer}
use Rattle.packet.specs.Datagram.{payload_part}
use Rattle.packet_header.proofs.Widths.{be_take}
use Rattle.packet.proofs.Passed.{neither_right, Lengths, lengths}

drop_take : (k n : ℕ) (l : List ℕ) → drop k (take n l) ≡ take (n - k) (drop k l)
drop_take zero n l = rw (sub-zero n)
drop_take (suc k) zero l = rw (zero-sub (suc k))
drop_take (suc k) (suc n) [] = none (suc n - suc k)
  where
    none : (m : ℕ) → ◌≡◌ {A = List ℕ} [] (take m [])
    none zero = refl
    none (suc m) = refl
drop_take (suc k) (suc n) (x ∷ xs) = rw (suc-sub-suc n k) (drop_take k n xs)

-- where nothing is due, neither 32 nor 34 is
neither_check : (a b c d e : Bool)
    → refuse_if a refusal.BufferLength
    (refuse_if b refusal.NotIpv4 (refuse_if c refusal.Lengths (refuse_if d refusal.Fragment (refuse_if e refusal.Transport (Ok tt))))) ≡ Ok tt
    → (c ≡ false) × (e ≡ false)
neither_check true b c d e h = (cc, cc)
neither_check false true c d e h = (cc, cc)
neither_check false false true d e h = (cc, cc)
neither_check false false false true e h = (cc, cc)
neither_check false false false false true h = (cc, cc)
neither_check false false false false false h = (refl, refl)

-- the transport header lies in the datagram where 34 is not due
transport_inside : (d : List ℕ) → header_length d ≤ length d → transport_short d ≡ false → header_length d + transport_length d ≤ length d
transport_inside d h e = by_cases (is_tcp (protocol_of d)) tcp other
  where
    left : length (after_header d) ≡ length d - header_length d
    left = length-drop (header_length d) d

    tcp : is_tcp (protocol_of d) ≡ true → header_length d + transport_length d ≤ length d
    tcp t =
        let short : tcp_short d ≡ false = rw t at e in
        let long = neither_right (ltb (tcp_words d) 5) _ (neither_right (ltb (length (after_header d)) 20) _ short) in
        let fits : tcp_words d * 4 ≤ length (after_header d) = ltb-false (length (after_header d)) (tcp_words d * 4) long in
        rw t (omega (arith, left))

    eight : (b : Bool) → (is_udp (protocol_of d) || is_icmp (protocol_of d)) ≡ b → is_tcp (protocol_of d) ≡ false → header_length d + transport_length d ≤ length d
    eight true b t =
        let short : ltb (length (after_header d)) 8 ≡ false = rw (t, b) at e in
        let fits : 8 ≤ length (after_header d) = ltb-false (length (after_header d)) 8 short in
        rw (t, b) (omega (arith, left))
    eight false b t = rw (t, b) (omega arith)

    other : is_tcp (protocol_of d) ≡ false → header_length d + transport_length d ≤ length d
    other t = eight _ refl t

-- header fields whose numbers lie in the packet
part_inside : (p : List ℕ) (f : PacketHeader) → f.payload ≤ f.total → f.total ≤ length p → payload_part p f ≡ drop f.payload (take f.total p)
unfolding payload_part
part_inside p f h k =
    let end : f.payload + (f.total - f.payload) ≡ f.total = omega arith in
    rw (le-ltb f.total f.payload h, end, le-ltb (length p) f.total k) (sym (drop_take f.payload f.total p))

module _ (p : List ℕ) (ok : Lengths p) where
  headers_alike : header_length (datagram_of p) ≡ header_length p
  headers_alike = ap (λ (b : ℕ). b % 16 * 4) (be_take 1 (total_length p) p 0 (omega (arith, ok.words, ok.header)))

  totals_alike : total_length (datagram_of p) ≡ total_length p
  totals_alike = be_take 2 (total_length p) p 2 (omega (arith, ok.words, ok.header))

  passed_payload : transport_short (datagram_of p) ≡ false → payload_part p (header_of (datagram_of p)) ≡ payload_of (datagram_of p)
  unfolding header_of
  passed_payload e =
      let d = datagram_of p in
      let all : length d ≡ total_length p = length-take-le (total_length p) p ok.total in
      let header : header_length d ≤ length d = omega (arith, headers_alike, all, ok.header) in
      let inside = transport_inside d header e in
      part_inside p (header_of d) (omega (arith, inside, all, totals_alike)) (omega (arith, totals_alike, ok.total))
      ∙ ap (λ (n : ℕ). drop (header_of d).payload (take n p)) totals_alike

module _ (p decoded : List ℕ) where
  -- THE LAW of the payload
  pub payload_part_lem : packet_check p decoded ≡ Ok tt → payload_part p (header_of (datagram_of p)) ≡ payload_of (datagram_of p)
  unfolding packet_check
  payload_part_lem e =
      let check =
      neither_check
      (ltb max_packet (length p) || ltb max_decoded (length decoded))
      (ltb (length p) 20 || not (eqb (version_of p) 4))
      (ltb (header_words p) 5 || (ltb (total_length p) (header_length p) || ltb (length p) (total_length p)))
      (is_fragment (datagram_of p))
      (transport_short (datagram_of p))
      e in
      passed_payload p (lengths p check.0) check.1

  seen : (check : Result Unit Refusal) (d : List ℕ) (f : PacketHeader) → packet_by check d ≡ Ok f → check ≡ Ok tt
  seen (Ok tt) d f e = refl
  seen (Err r) d f e = cc

  seen_header : (check : Result Unit Refusal) (d : List ℕ) (f : PacketHeader) → packet_by check d ≡ Ok f → f ≡ header_of d
  seen_header (Ok tt) d f e = cc
  seen_header (Err r) d f e = cc

  -- the same of the header fields that a caller has been given
  pub seen_payload : (f : PacketHeader) → packet_answer p decoded ≡ Ok f → payload_part p f ≡ payload_of (datagram_of p)
  unfolding packet_answer
  seen_payload f e = rw (seen_header (packet_check p decoded) (datagram_of p) f e) (payload_part_lem (seen (packet_check p decoded) (datagram_of p) f e))
