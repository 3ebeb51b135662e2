-- NO NUMBER IS GIVEN FOR ANOTHER CAUSE: the number of each answer is 0 or one of those that document 01 has for its entry. Each definition of what
-- is due is a row of tests, and every refusal in it has one of these numbers; "next" has one more than a verdict. Section "Numbers of refusal".
use Rattle.std.specs.Prelude.{Result, Ok, Err}
use mathlib.Core.Path.{◌≡◌, refl, ap, ◌∙◌}
use mathlib.Core.Bool.{true, not, ◌||◌}
use mathlib.Core.List.{List, [], ◌∷◌}
use Prim.Native.Nat.{ℕ}
use lib.ListN.{length}
use lib.Dec.{eqb, ltb}
use Rattle.definitions.specs.declared.packets.Direction.{Direction}
use Rattle.definitions.specs.declared.table.Table.{Table}
use Rattle.definitions.specs.declared.packets.FieldMap.{FieldMap}
use Rattle.definitions.specs.declared.packets.Placement.{Placement}
use Rattle.definitions.specs.declared.answers.Refusal.TheVariants as refusal
use Rattle.definitions.specs.declared.answers.TextRefusal.{TextRefusal}
use Rattle.definitions.specs.Limits.{Limits, max_packet, max_decoded}
use Rattle.definitions.specs.Lists.{any?, all?}
use Rattle.definitions.specs.Refusals.{check_number, read_number, write_number, packet_number, verdict_number, found_number, and_then}
use Rattle.definitions.specs.Reading.{read}
use Rattle.definitions.specs.WellFormed.{well_formed}
use Rattle.definitions.specs.Canonical.{canonical_text}
use Rattle.definitions.specs.Writing.{writing_check, writes}
use Rattle.definitions.specs.Packet.{version_of, header_words, header_length, total_length, is_fragment, datagram_of, payload_of, transport_short}
use Rattle.definitions.specs.Packet.{packet_check, packet_answer}
use Rattle.definitions.specs.Fields.{field_passes, mapped, fields_check}
use Rattle.definitions.specs.Placements.{items_of, positives}
use Rattle.definitions.specs.Answers.{input_check, verdict_answer, first_answer, earlier_check, next_answer}
use Rattle.laws.proofs.Checks.{among, among_more, CheckAmong, refuse_among, else_among}
use Rattle.laws.proofs.Numbers.{write_number_lem, packet_number_lem, verdict_number_lem, first_number, next_number_lem}
use Rattle.laws.proofs.Places.{read_causes, OutcomeFits, read_fits}

abbrev pub write_causes : List ℕ
write_causes = 0 ∷ 20 ∷ 21 ∷ 22 ∷ []

abbrev pub packet_causes : List ℕ
packet_causes = 0 ∷ 30 ∷ 31 ∷ 32 ∷ 33 ∷ 34 ∷ []

abbrev pub fields_causes : List ℕ
fields_causes = 0 ∷ 35 ∷ []

abbrev pub verdict_causes : List ℕ
verdict_causes = 0 ∷ 20 ∷ 30 ∷ 31 ∷ 32 ∷ 33 ∷ 34 ∷ 35 ∷ []

abbrev pub next_causes : List ℕ
next_causes = 0 ∷ 20 ∷ 30 ∷ 31 ∷ 32 ∷ 33 ∷ 34 ∷ 35 ∷ 36 ∷ []

-- ---- what is due

writing_among : (lim : Limits) (t : Table) (n : ℕ) → CheckAmong write_causes (writing_check lim t n)
unfolding writing_check any?
writing_among lim t n =
    refuse_among write_causes (not (well_formed t)) refusal.IllFormed _ refl
    (refuse_among write_causes (ltb lim.canonical (length (canonical_text t))) refusal.CanonicalLength _ refl
    (refuse_among write_causes (ltb n (length (canonical_text t))) refusal.ShortBuffer (Ok tt) refl refl))

pub packet_among : (p decoded : List ℕ) → CheckAmong packet_causes (packet_check p decoded)
unfolding packet_check any?
packet_among p decoded =
    refuse_among packet_causes (ltb max_packet (length p) || ltb max_decoded (length decoded)) refusal.BufferLength _ refl
    (refuse_among packet_causes (ltb (length p) 20 || not (eqb (version_of p) 4)) refusal.NotIpv4 _ refl
    (refuse_among packet_causes (ltb (header_words p) 5 || (ltb (total_length p) (header_length p) || ltb (length p) (total_length p))) refusal.Lengths _ refl
    (refuse_among packet_causes (is_fragment (datagram_of p)) refusal.Fragment _ refl
    (refuse_among packet_causes (transport_short (datagram_of p)) refusal.Transport (Ok tt) refl refl))))

-- the fields' answer is what is due
pub fields_causes_lem : (payload decoded : List ℕ) (m : FieldMap) → among fields_causes (check_number (fields_check payload decoded m)) ≡ true
unfolding fields_check any?
fields_causes_lem payload decoded m = refuse_among fields_causes (any? (field_passes payload decoded m) mapped) refusal.FieldSpan (Ok tt) refl refl

-- ---- of what the entries answer

accepted : among read_causes 0 ≡ true
unfolding any?
accepted = refl

pub read_causes_lem : (lim : Limits) (s : List ℕ) → among read_causes (read_number (read lim s).outcome) ≡ true
read_causes_lem lim s = go (read lim s).outcome (read_fits lim s)
  where
    go : (o : Result Unit TextRefusal) → OutcomeFits (length s) o → among read_causes (read_number o) ≡ true
    go (Ok tt) h = accepted
    go (Err e) h = h.0

pub write_causes_lem : (lim : Limits) (t : Table) (out : List ℕ) → among write_causes (write_number (writes lim t out)) ≡ true
write_causes_lem lim t out = ap (among write_causes) (write_number_lem lim t out) ∙ writing_among lim t (length out)

pub packet_causes_lem : (p decoded : List ℕ) → among packet_causes (packet_number (packet_answer p decoded)) ≡ true
packet_causes_lem p decoded = ap (among packet_causes) (packet_number_lem p decoded) ∙ packet_among p decoded

module _ (t : Table) (p decoded : List ℕ) (dir : Direction) (m : FieldMap) where
  verdict_among : CheckAmong verdict_causes (input_check t p decoded dir m)
  unfolding input_check any? all?
  verdict_among =
      refuse_among verdict_causes (not (well_formed t)) refusal.IllFormed _ refl
      (else_among verdict_causes (packet_check p decoded) (fields_check (payload_of (datagram_of p)) decoded m)
      (among_more packet_causes verdict_causes (check_number (packet_check p decoded)) refl (packet_among p decoded))
      (among_more fields_causes verdict_causes (check_number (fields_check (payload_of (datagram_of p)) decoded m)) refl
      (fields_causes_lem (payload_of (datagram_of p)) decoded m)))

  next_among : (h : Placement) → CheckAmong next_causes (and_then (input_check t p decoded dir m) (earlier_check t p decoded dir m h))
  unfolding any? all?
  next_among h =
      else_among next_causes (input_check t p decoded dir m) (earlier_check t p decoded dir m h)
      (among_more verdict_causes next_causes (check_number (input_check t p decoded dir m)) refl verdict_among)
      (refuse_among next_causes (not (eqb h.count (positives (items_of t)))) refusal.EarlierCount (Ok tt) refl refl)

  pub verdict_causes_lem : among verdict_causes (verdict_number (verdict_answer t p decoded dir m)) ≡ true
  verdict_causes_lem = ap (among verdict_causes) (verdict_number_lem t p decoded dir m) ∙ verdict_among

  pub first_causes : among verdict_causes (found_number (first_answer t p decoded dir m).found) ≡ true
  first_causes = ap (among verdict_causes) (first_number t p decoded dir m) ∙ verdict_among

  pub next_causes_lem : (h : Placement) → among next_causes (found_number (next_answer t p decoded dir m h).found) ≡ true
  next_causes_lem h = ap (among next_causes) (next_number_lem t p decoded dir m h) ∙ next_among h
