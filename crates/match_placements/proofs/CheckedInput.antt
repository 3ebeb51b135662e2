-- What a packet for which neither 20 nor any of 30 to 34 is due hands on: small lengths, 35 as all that is still due, and a list that needs its header
-- fields and
-- payload alone.
use Rattle.std.specs.Prelude.{Result, Ok, Err}
use mathlib.Core.Path.{◌≡◌, refl, sym, ap, ◌∙◌}
use mathlib.Core.Bool.{Bool, true, false, not, ◌||◌}
use mathlib.Core.List.{List}
use Prim.Native.Nat.{ℕ, ◌≤◌, ◌<◌}
use native.Mathlib.Omega.{arith}
use lib.ListN.{length, length-take, length-drop}
use lib.Dec.{ltb}
use borrow.Author.Tests.{ltb-false, not-false}
use Rattle.definitions.specs.declared.table.Table.{Table}
use Rattle.definitions.specs.declared.packets.Direction.{Direction}
use Rattle.definitions.specs.declared.packets.PacketHeader.{PacketHeader}
use Rattle.definitions.specs.declared.packets.FieldMap.{FieldMap}
use Rattle.definitions.specs.declared.answers.Refusal.{Refusal}
use Rattle.definitions.specs.declared.answers.Refusal.TheVariants as refusal
use Rattle.definitions.specs.Limits.{max_packet, max_decoded}
use Rattle.definitions.specs.Refusals.{refuse_if, and_then}
use Rattle.definitions.specs.WellFormed.{well_formed}
use Rattle.definitions.specs.Packet.{total_length, datagram_of, header_of, payload_of, packet_check, packet_by, packet_answer}
use Rattle.definitions.specs.Fields.{fields_check}
use Rattle.definitions.specs.Answers.{input_check, placements_of}
use Rattle.laws.proofs.Checks.{refuse_fine, neither}
use Rattle.packet.specs.Datagram.{payload_part}
use Rattle.packet.proofs.Payloads.{payload_part_lem}
use Rattle.match_windows.specs.Spans.{size_bound}
use Rattle.search.specs.Searching.{Searchable}
use Rattle.search.proofs.Formed.{formed_searchable}
use Rattle.match_checks.specs.InputChecks.{table_and_packet_check, input_header}
use Rattle.match_placements.specs.Listing.{list_in}

by_seen : (w : Result Unit Refusal) (g : List ℕ) (f : PacketHeader) → packet_by w g ≡ Ok f → (w ≡ Ok tt) × (f ≡ header_of g)
by_seen (Ok tt) g f e = (refl, cc)
by_seen (Err r) g f e = (cc, cc)

by_refused : (w : Result Unit Refusal) (g : List ℕ) (r : Refusal) → packet_by w g ≡ Err r → w ≡ Err r
by_refused (Ok tt) g r e = cc
by_refused (Err s) g r e = cc

-- what is tested later plays no part
refused_first : (b : Bool) (i r : Refusal) (w v : Result Unit Refusal) → refuse_if b i w ≡ Err r → refuse_if b i (and_then w v) ≡ Err r
refused_first true i r w v e = e
refused_first false i r (Ok tt) v e = cc
refused_first false i r (Err s) v e = e

-- neither 20 nor any of 30 to 34 is due, and f and s are the datagram's header fields and payload
pub record CheckedInput (t : Table) (p d : List ℕ) (f : PacketHeader) (s : List ℕ) : Type 0 where
  pub formed : well_formed t ≡ true
  pub packet : packet_check p d ≡ Ok tt
  pub header : f ≡ header_of (datagram_of p)
  pub payload : s ≡ payload_of (datagram_of p)

-- what the checks answer, by what the table's test says
pub input_told : (t : Table) (p d : List ℕ) {formed : Bool} {a : Result PacketHeader Refusal} → formed ≡ well_formed t → a ≡ input_header formed p d
    → a ≡ input_header (well_formed t) p d
input_told t p d e k = k ∙ ap (λ (b : Bool). input_header b p d) e

-- ---- what the answer a says

module _ (t : Table) (p d : List ℕ) {a : Result PacketHeader Refusal} (e : a ≡ input_header (well_formed t) p d) where
  pub refused_check : {r : Refusal} → a ≡ Err r → (dir : Direction) (m : FieldMap) → input_check t p d dir m ≡ Err r
  unfolding input_check
  refused_check {r} k dir m =
      refused_first (not (well_formed t)) refusal.IllFormed r (packet_check p d) _ (by_refused (table_and_packet_check (well_formed t) p d) (datagram_of p) r (sym e ∙ k))

  pub seen_checked : {f : PacketHeader} → a ≡ Ok f → {s : List ℕ} → s ≡ payload_part p f → CheckedInput t p d f s
  seen_checked {f} k q =
      let w = by_seen (table_and_packet_check (well_formed t) p d) (datagram_of p) f (sym e ∙ k) in
      let z = refuse_fine (not (well_formed t)) refusal.IllFormed (packet_check p d) w.0 in
      record {
        formed = not-false (well_formed t) z.0;
        packet = z.1;
        header = w.1;
        payload = q ∙ ap (payload_part p) w.1 ∙ payload_part_lem p d z.1;
      }

-- ---- what is handed on

module _ (p d : List ℕ) {s : List ℕ} (fine : packet_check p d ≡ Ok tt) (part : s ≡ payload_of (datagram_of p)) where
  buffer_lengths : (length p ≤ max_packet) × (length d ≤ max_decoded)
  unfolding packet_check
  buffer_lengths =
      let w = neither _ _ (refuse_fine (ltb max_packet (length p) || ltb max_decoded (length d)) refusal.BufferLength _ fine).0 in
      (ltb-false max_packet (length p) w.0, ltb-false max_decoded (length d) w.1)

  payload_short : length s ≤ length p
  payload_short = rw part (omega (arith, length-drop (header_of (datagram_of p)).payload (datagram_of p), length-take (total_length p) p))

  pub lengths_small : (length s < size_bound) × (length d < size_bound)
  lengths_small = (omega (arith, payload_short, buffer_lengths.0), omega (arith, buffer_lengths.1))

-- of a packet whose own check passed, whatever the table
pub seen_small : (p d : List ℕ) {a : Result PacketHeader Refusal} → a ≡ packet_answer p d → {f : PacketHeader} → a ≡ Ok f → {s : List ℕ} → s ≡ payload_part p f
    → (length s < size_bound) × (length d < size_bound)
unfolding packet_answer
seen_small p d e {f} k q =
    let w = by_seen (packet_check p d) (datagram_of p) f (sym e ∙ k) in
    lengths_small p d w.0 (q ∙ ap (payload_part p) w.1 ∙ payload_part_lem p d w.0)

module _ {t : Table} {p d : List ℕ} {f : PacketHeader} {s : List ℕ} (c : CheckedInput t p d f s) where
  pub searchable : length t.bytes < size_bound → Searchable t.items t.count t.bytes s d
  searchable b = let n = lengths_small p d c.packet c.payload in formed_searchable t c.formed s d b n.0 n.1

  module _ (dir : Direction) (m : FieldMap) where
    pub check_here : input_check t p d dir m ≡ fields_check s d m
    unfolding input_check
    check_here = rw (c.formed, c.packet, c.payload)

    pub list_here : placements_of t p d dir m ≡ list_in t f s d dir m
    unfolding placements_of
    list_here = rw (c.header, c.payload)
