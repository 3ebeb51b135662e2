-- One IPv4 packet: datagram, header fields, payload, and refusals 30 to 34. Sections "Packet and fields" and "Numbers of refusal".
-- Headers are those of RFC 791, 9293, 768 and 792. Checksums and the UDP length are not verified.
use Rattle.std.specs.Prelude.{ℕ, zero, suc, ◌+◌, ◌*◌, ◌/◌, ◌%◌, Bool, not, ◌&&◌, ◌||◌, List, length, get_or, take, drop, eqb, ltb, if◌then◌else◌, Result, Ok, Err}
use Rattle.definitions.specs.declared.packets.PacketHeader.{PacketHeader}
use Rattle.definitions.specs.declared.answers.Refusal.TheVariants as refusal
use Rattle.definitions.specs.declared.answers.Refusal.{Refusal}
use Rattle.definitions.specs.Limits.{max_packet, max_decoded}
use Rattle.definitions.specs.Refusals.{refuse_if}

-- a header field of so many bytes at a place, big end first
unfoldable pub big_endian : ℕ → List ℕ → ℕ → ℕ
big_endian zero d at = 0
big_endian (suc n) d at = big_endian n d at * 256 + get_or d (at + n) 0

-- ---- the IP header

abbrev pub version_of : List ℕ → ℕ
version_of d = big_endian 1 d 0 / 16

abbrev pub header_words : List ℕ → ℕ
header_words d = big_endian 1 d 0 % 16

abbrev pub header_length : List ℕ → ℕ
header_length d = header_words d * 4

abbrev pub total_length : List ℕ → ℕ
total_length d = big_endian 2 d 2

-- the more-fragments bit and the 13 bits of the offset
abbrev pub is_fragment : List ℕ → Bool
is_fragment d = eqb (big_endian 2 d 6 / 8192 % 2) 1 || not (eqb (big_endian 2 d 6 % 8192) 0)

abbrev pub protocol_of : List ℕ → ℕ
protocol_of d = big_endian 1 d 9

-- The datagram is the first total-length bytes of the packet; the rest is padding
abbrev pub datagram_of : List ℕ → List ℕ
datagram_of p = take (total_length p) p

-- ---- after the IP header of a datagram

abbrev pub after_header : List ℕ → List ℕ
after_header d = drop (header_length d) d

abbrev pub is_tcp : ℕ → Bool
is_tcp protocol = eqb protocol 6

-- UDP and ICMP have headers of 8 bytes
abbrev pub is_udp : ℕ → Bool
is_udp protocol = eqb protocol 17

abbrev pub is_icmp : ℕ → Bool
is_icmp protocol = eqb protocol 1

-- TCP and UDP have ports
abbrev pub has_ports : ℕ → Bool
has_ports protocol = is_tcp protocol || is_udp protocol

-- the TCP header's offset field, in words
abbrev pub tcp_words : List ℕ → ℕ
tcp_words d = big_endian 1 (after_header d) 12 / 16

abbrev pub transport_length : List ℕ → ℕ
transport_length d =
    if is_tcp (protocol_of d) then tcp_words d * 4
    else if is_udp (protocol_of d) || is_icmp (protocol_of d) then 8
    else 0

abbrev pub port_at : List ℕ → ℕ → ℕ
port_at d at = if has_ports (protocol_of d) then big_endian 2 (after_header d) at else 0

-- THE HEADER FIELDS of a datagram; the payload follows the TCP header, 8 bytes of UDP or ICMP header, or the IP header for other protocols
unfoldable pub header_of : List ℕ → PacketHeader
header_of d =
    record {
      total = total_length d;
      payload = header_length d + transport_length d;
      protocol = protocol_of d;
      tos = big_endian 1 d 1;
      id = big_endian 2 d 4;
      ttl = big_endian 1 d 8;
      checksum = big_endian 2 d 10;
      source = big_endian 4 d 12;
      destination = big_endian 4 d 16;
      sport = port_at d 0;
      dport = port_at d 2;
    }

abbrev pub payload_of : List ℕ → List ℕ
payload_of d = drop (header_of d).payload d

-- ---- 30 to 34, in this order, of a lent packet and a lent decoded buffer

-- 34: under 20 bytes left, offset under 5 words or past the datagram; UDP, ICMP: under 8 left
abbrev pub tcp_short : List ℕ → Bool
tcp_short d =
    ltb (length (after_header d)) 20 || (ltb (tcp_words d) 5 || ltb (length (after_header d)) (tcp_words d * 4))

abbrev pub transport_short : List ℕ → Bool
transport_short d =
    if is_tcp (protocol_of d) then tcp_short d
    else (is_udp (protocol_of d) || is_icmp (protocol_of d)) && ltb (length (after_header d)) 8

-- 33 and 34 are the datagram's own
abbrev pub datagram_check : List ℕ → Result Unit Refusal
datagram_check d = refuse_if (is_fragment d) refusal.Fragment (refuse_if (transport_short d) refusal.Transport (Ok tt))

unfoldable pub packet_check : List ℕ → List ℕ → Result Unit Refusal
packet_check p decoded =
    refuse_if (ltb max_packet (length p) || ltb max_decoded (length decoded)) refusal.BufferLength
    (refuse_if (ltb (length p) 20 || not (eqb (version_of p) 4)) refusal.NotIpv4
    (refuse_if (ltb (header_words p) 5 || (ltb (total_length p) (header_length p) || ltb (length p) (total_length p))) refusal.Lengths
    (datagram_check (datagram_of p))))

abbrev pub packet_by : Result Unit Refusal → List ℕ → Result PacketHeader Refusal
packet_by (Ok tt) d = Ok (header_of d)
packet_by (Err r) d = Err r

-- the header fields of a lent packet, or 30 to 34
unfoldable pub packet_answer : List ℕ → List ℕ → Result PacketHeader Refusal
packet_answer p decoded = packet_by (packet_check p decoded) (datagram_of p)
