-- 20 IS ANSWERED EXACTLY IF THE TABLE IS NOT WELL FORMED: that is tested first, and no later test gives this number. By cases on the test. Section
-- "Numbers of refusal".
use Rattle.std.specs.Prelude.{Result, Ok}
use mathlib.Core.Path.{◌≡◌, refl, sym, ap, subst, ◌∙◌}
use mathlib.Core.Bool.{Bool, true, false, not, true≢false, false≢true}
use mathlib.Core.List.{List, [], ◌∷◌}
use mathlib.Core.Logic.{◌↔◌}
use Prim.Native.Nat.{ℕ}
use lib.ListN.{length}
use lib.Dec.{eqb, ltb}
use Rattle.definitions.specs.declared.packets.Direction.{Direction}
use Rattle.definitions.specs.declared.table.Table.{Table}
use Rattle.definitions.specs.declared.packets.FieldMap.{FieldMap}
use Rattle.definitions.specs.declared.packets.Placement.{Placement}
use Rattle.definitions.specs.declared.answers.Refusal.{Refusal}
use Rattle.definitions.specs.declared.answers.Refusal.TheVariants as refusal
use Rattle.definitions.specs.Limits.{Limits}
use Rattle.definitions.specs.Lists.{any?, all?}
use Rattle.definitions.specs.Refusals.{check_number, write_number, verdict_number, found_number, refuse_if, and_then}
use Rattle.definitions.specs.WellFormed.{well_formed}
use Rattle.definitions.specs.Canonical.{canonical_text}
use Rattle.definitions.specs.Writing.{writing_check, writes}
use Rattle.definitions.specs.Packet.{datagram_of, payload_of, packet_check}
use Rattle.definitions.specs.Fields.{fields_check}
use Rattle.definitions.specs.Placements.{items_of, positives}
use Rattle.definitions.specs.Answers.{input_check, verdict_answer, first_answer, earlier_check, next_answer}
use Rattle.laws.proofs.Checks.{among, among_more, CheckAmong, refuse_among, else_among}
use Rattle.laws.proofs.Numbers.{write_number_lem, verdict_number_lem, first_number, next_number_lem}
use Rattle.laws.proofs.Causes.{packet_causes, fields_causes, packet_among, fields_causes_lem}

-- ---- the first test, where what is due later is among other numbers

first_tested : (l : List ℕ) (b : Bool) (d : Result Unit Refusal) → among l 20 ≡ false → CheckAmong l d
    → (check_number (refuse_if (not b) refusal.IllFormed d) ≡ 20) ↔ (b ≡ false)
first_tested l true d none a = (λ e. absurd (false≢true (sym none ∙ subst (λ (n : ℕ). among l n ≡ true) e a)), λ e. absurd (true≢false e))
first_tested l false d none a = (λ e. refl, λ e. refl)

then_tested : (b : Bool) (r : Refusal) (d e : Result Unit Refusal) → and_then (refuse_if b r d) e ≡ refuse_if b r (and_then d e)
then_tested true r d e = refl
then_tested false r d e = refl

-- ---- what is due later

abbrev later_writing : List ℕ
later_writing = 0 ∷ 21 ∷ 22 ∷ []

abbrev later_input : List ℕ
later_input = 0 ∷ 30 ∷ 31 ∷ 32 ∷ 33 ∷ 34 ∷ 35 ∷ 36 ∷ []

-- a number that is that of what is due
answered : {n k : ℕ} {b : Bool} → n ≡ k → (k ≡ 20) ↔ (b ≡ false) → (n ≡ 20) ↔ (b ≡ false)
answered is k = (λ e. k.0 (sym is ∙ e), λ f. is ∙ k.1 f)

pub write_ill_formed : (lim : Limits) (t : Table) (out : List ℕ) → (write_number (writes lim t out) ≡ 20) ↔ (well_formed t ≡ false)
unfolding writing_check any?
write_ill_formed lim t out =
    answered (write_number_lem lim t out)
    (first_tested later_writing (well_formed t) _ refl
    (refuse_among later_writing (ltb lim.canonical (length (canonical_text t))) refusal.CanonicalLength _ refl
    (refuse_among later_writing (ltb (length out) (length (canonical_text t))) refusal.ShortBuffer (Ok tt) refl refl)))

module _ (t : Table) (p decoded : List ℕ) (dir : Direction) (m : FieldMap) where
  abbrev packet_and_fields : Result Unit Refusal
  packet_and_fields = and_then (packet_check p decoded) (fields_check (payload_of (datagram_of p)) decoded m)

  later_among : CheckAmong later_input packet_and_fields
  unfolding any? all?
  later_among =
      else_among later_input (packet_check p decoded) (fields_check (payload_of (datagram_of p)) decoded m)
      (among_more packet_causes later_input (check_number (packet_check p decoded)) refl (packet_among p decoded))
      (among_more fields_causes later_input (check_number (fields_check (payload_of (datagram_of p)) decoded m)) refl
      (fields_causes_lem (payload_of (datagram_of p)) decoded m))

  input_tested : (check_number (input_check t p decoded dir m) ≡ 20) ↔ (well_formed t ≡ false)
  unfolding input_check any?
  input_tested = first_tested later_input (well_formed t) packet_and_fields refl later_among

  pub verdict_ill_formed : (verdict_number (verdict_answer t p decoded dir m) ≡ 20) ↔ (well_formed t ≡ false)
  verdict_ill_formed = answered (verdict_number_lem t p decoded dir m) input_tested

  pub first_ill_formed : (found_number (first_answer t p decoded dir m).found ≡ 20) ↔ (well_formed t ≡ false)
  first_ill_formed = answered (first_number t p decoded dir m) input_tested

  pub next_ill_formed : (h : Placement) → (found_number (next_answer t p decoded dir m h).found ≡ 20) ↔ (well_formed t ≡ false)
  unfolding input_check any?
  next_ill_formed h =
      answered
      (next_number_lem t p decoded dir m h ∙ ap check_number (then_tested (not (well_formed t)) refusal.IllFormed packet_and_fields (earlier_check t p decoded dir m h)))
      (first_tested later_input (well_formed t) (and_then packet_and_fields (earlier_check t p decoded dir m h)) refl
      (else_among later_input packet_and_fields (earlier_check t p decoded dir m h) later_among
      (refuse_among later_input (not (eqb h.count (positives (items_of t)))) refusal.EarlierCount (Ok tt) refl refl)))
