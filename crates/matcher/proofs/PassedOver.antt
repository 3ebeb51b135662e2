-- A table that is passed over by protocol and flow is not met (`passed_over`): a packet that is not refused has its protocol in the tenth byte, and a table whose
-- protocol or flow is another has no placement.
use Rattle.std.specs.Prelude.{Result, Ok, Err}
use mathlib.Core.Path.{◌≡◌, refl, ap, ◌∙◌}
use mathlib.Core.Bool.{Bool, false, not, ◌&&◌, ◌||◌}
use mathlib.Core.List.{List, []}
use Prim.Native.Nat.{ℕ, ◌+◌, ◌*◌, ◌<◌, ◌≤◌}
use native.Mathlib.Omega.{arith}
use lib.ListN.{length, get_or, take}
use lib.Dec.{eqb, ltb}
use lib.Seq.{get_or-take}
use borrow.Author.Tests.{ltb-false, le-leb, lt-leb, ne_eqb, eq-eqb}
use Rattle.definitions.specs.declared.table.Flow.{Flow}
use Rattle.definitions.specs.declared.table.Table.{Table}
use Rattle.definitions.specs.declared.packets.Direction.{Direction}
use Rattle.definitions.specs.declared.packets.FieldMap.{FieldMap}
use Rattle.definitions.specs.declared.packets.Start.{Start}
use Rattle.definitions.specs.declared.answers.Refusal.TheVariants as refusal
use Rattle.definitions.specs.declared.answers.Refusal.{Refusal}
use Rattle.definitions.specs.Limits.{max_packet, max_decoded}
use Rattle.definitions.specs.Refusals.{refuse_if, and_then}
use Rattle.definitions.specs.WellFormed.{well_formed}
use Rattle.definitions.specs.Tests.{flow_holds}
use Rattle.definitions.specs.Packet.{big_endian, version_of, header_words, header_length, total_length, datagram_of, header_of, payload_of, packet_check}
use Rattle.definitions.specs.Fields.{view_of, fields_check}
use Rattle.definitions.specs.Placements.{only_if, head_holds, listed}
use Rattle.definitions.specs.Answers.{verdict_by, input_check, placements_of, verdict_answer}
use Rattle.definitions.specs.Decisions.{is_met}
use Rattle.laws.proofs.Checks.{refuse_fine, else_fine, neither}
use Rattle.matcher.specs.PassedOver.{may_meet}

-- ---- by what is seen of the packet

module _ (protocol : ℕ) (flow : Flow) (p : List ℕ) (dir : Direction) where
  pub too_short : length p < 10 → false ≡ may_meet protocol flow p dir
  unfolding may_meet
  too_short h = rw (lt-leb 10 (length p) h)

  pub other_protocol : 10 ≤ length p → (get_or p 9 0 ≡ protocol → ⊥) → false ≡ may_meet protocol flow p dir
  unfolding may_meet
  other_protocol h f = rw (le-leb 10 (length p) h, ne_eqb (get_or p 9 0) protocol f)

  pub by_flow : 10 ≤ length p → get_or p 9 0 ≡ protocol → flow_holds flow dir ≡ may_meet protocol flow p dir
  unfolding may_meet
  by_flow h e = rw (le-leb 10 (length p) h, eq-eqb (get_or p 9 0) protocol e)

-- ---- what it says

module _ (p decoded : List ℕ) (fine : packet_check p decoded ≡ Ok tt) where
  -- the datagram has its header, and lies in the packet
  header_there : (10 ≤ length p) × (10 ≤ total_length p)
  unfolding packet_check
  header_there =
      let a = (refuse_fine (ltb max_packet (length p) || ltb max_decoded (length decoded)) refusal.BufferLength _ fine).1 in
      let b = refuse_fine (ltb (length p) 20 || not (eqb (version_of p) 4)) refusal.NotIpv4 _ a in
      let c = (refuse_fine (ltb (header_words p) 5 || (ltb (total_length p) (header_length p) || ltb (length p) (total_length p))) refusal.Lengths _ b.1).0 in
      let n = ltb-false (length p) 20 (neither (ltb (length p) 20) _ b.0).0 in
      let w = neither (ltb (header_words p) 5) _ c in
      let five = ltb-false (header_words p) 5 w.0 in
      let total = ltb-false (total_length p) (header_length p) (neither (ltb (total_length p) (header_length p)) _ w.1).0 in
      (omega (arith, n), omega (arith, five, total))

  protocol_there : (header_of (datagram_of p)).protocol ≡ get_or p 9 0
  unfolding header_of big_endian
  protocol_there =
      let e : get_or (take (total_length p) p) 9 0 ≡ get_or p 9 0 = get_or-take (total_length p) p 9 0 (omega (arith, header_there.1)) in
      let z : 0 * 256 + get_or (take (total_length p) p) 9 0 ≡ get_or (take (total_length p) p) 9 0 = omega arith in
      z ∙ e

only_none : (b : Bool) (l : List (List Start)) → b ≡ false → only_if b l ≡ []
only_none b l e = rw e

module _ (t : Table) (p decoded : List ℕ) (dir : Direction) (m : FieldMap) where
  none_listed : packet_check p decoded ≡ Ok tt → may_meet t.protocol t.flow p dir ≡ false → placements_of t p decoded dir m ≡ []
  unfolding placements_of listed may_meet
  none_listed fine f =
      only_none (head_holds t (view_of p decoded m) dir) _
      (ap (λ (n : ℕ). eqb n t.protocol && flow_holds t.flow dir) (protocol_there p decoded fine)
      ∙ (rw (le-leb 10 (length p) (header_there p decoded fine).0) at f))

  unmet_by : (d : Result Unit Refusal) (l : List (List Start)) → (d ≡ Ok tt → l ≡ []) → is_met (verdict_by d l) ≡ false
  unmet_by (Ok tt) l h = rw (h refl)
  unmet_by (Err r) l h = refl

  pub passed_over : may_meet t.protocol t.flow p dir ≡ false → is_met (verdict_answer t p decoded dir m) ≡ false
  unfolding verdict_answer input_check
  passed_over f =
      let fields : Result Unit Refusal = fields_check (payload_of (datagram_of p)) decoded m in
      unmet_by (refuse_if (not (well_formed t)) refusal.IllFormed (and_then (packet_check p decoded) fields)) (placements_of t p decoded dir m)
      (λ e. none_listed (else_fine (packet_check p decoded) fields (refuse_fine (not (well_formed t)) refusal.IllFormed _ e).1).0 f)
