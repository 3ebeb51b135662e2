-- EACH ANSWER IN NUMBERS: the number of what is due, 0 if nothing is, and the values that document 01 has for it. An answer is a refusal exactly where
-- something is due, so it goes by cases on that, and on whether the list of placements is empty. Sections "Numbers of refusal" and "Meaning".
use Rattle.std.specs.Prelude.{Result, Ok, Err, ℕ}
use mathlib.Core.Path.{◌≡◌, refl, sym, ap, ◌∙◌}
use mathlib.Core.List.{List, [], ◌∷◌, ◌++◌, map, map-append}
use Prim.Native.Nat.{ℕ, zero, suc, ◌-◌}
use lib.ListN.{length, get_or, replicate, length-map}
use Rattle.definitions.specs.declared.packets.Start.{Start}
use Rattle.definitions.specs.declared.packets.Direction.{Direction}
use Rattle.definitions.specs.declared.table.Table.{Table}
use Rattle.definitions.specs.declared.packets.FieldMap.{FieldMap}
use Rattle.definitions.specs.declared.packets.Placement.{Placement}
use Rattle.definitions.specs.declared.answers.Reading.{Reading}
use Rattle.definitions.specs.declared.answers.Verdict.{Verdict}
use Rattle.definitions.specs.declared.answers.Answer.{Answer}
use Rattle.definitions.specs.declared.answers.Refusal.{Refusal}
use Rattle.definitions.specs.declared.packets.PacketHeader.{PacketHeader}
use Rattle.definitions.specs.Limits.{Limits, document_limits, max_patterns}
use Rattle.definitions.specs.Lists.{keep, padded}
use Rattle.definitions.specs.Starts.{start_at, start_number}
use Rattle.definitions.specs.Refusals.{check_number, write_number, packet_number, verdict_number, found_number, and_then}
use Rattle.definitions.specs.Reading.{read}
use Rattle.definitions.specs.Canonical.{canonical_text}
use Rattle.definitions.specs.Writing.{writing_check, written_if, writes}
use Rattle.definitions.specs.Packet.{datagram_of, header_of, packet_check, packet_by, packet_answer}
use Rattle.definitions.specs.Fields.{fields_check}
use Rattle.definitions.specs.Placements.{lex_less}
use Rattle.definitions.specs.Answers.{starts_of, head_of, unless, verdict_by, input_check, placements_of, verdict_answer, first_answer, earlier_check, next_answer}
use Rattle.definitions.specs.AnswerNumbers.{read_numbers, write_numbers, header_numbers, packet_numbers, check_numbers, verdict_numbers, answer_numbers, numbered}
use Rattle.definitions.specs.AnswerNumbers.{met_number, placed_numbers, none_numbers, read_in_numbers, write_in_numbers, packet_in_numbers, fields_in_numbers}
use Rattle.definitions.specs.AnswerNumbers.{verdict_in_numbers, first_in_numbers, next_in_numbers}

-- ---- of anything due

written_numbers : (d : Result Unit Refusal) (n : ℕ) → write_numbers (written_if d n) ≡ numbered d (n ∷ []) (0 ∷ [])
written_numbers (Ok tt) n = refl
written_numbers (Err r) n = refl

packet_by_numbers : (d : Result Unit Refusal) (g : List ℕ) → packet_numbers (packet_by d g) ≡ numbered d (header_numbers (header_of g)) []
packet_by_numbers (Ok tt) g = refl
packet_by_numbers (Err r) g = refl

verdict_by_numbers : (d : Result Unit Refusal) (l : List (List Start)) → verdict_numbers (verdict_by d l) ≡ numbered d (met_number l ∷ []) (0 ∷ [])
verdict_by_numbers (Ok tt) [] = refl
verdict_by_numbers (Ok tt) (q ∷ l) = refl
verdict_by_numbers (Err r) l = refl

-- unused room is zero
zeros : (n : ℕ) → map start_number (replicate n (start_at 0)) ≡ replicate n 0
zeros zero = refl
zeros (suc n) = ap (λ (l : List ℕ). 0 ∷ l) (zeros n)

starts_padded : (n : ℕ) (q : List Start) → map start_number (padded n (start_at 0) q) ≡ padded n 0 (map start_number q)
starts_padded n q =
    map-append start_number q (replicate (n - length q) (start_at 0))
    ∙ ap (λ (l : List ℕ). map start_number q ++ l) (zeros (n - length q))
    ∙ ap (λ (k : ℕ). map start_number q ++ replicate (n - k) 0) (sym (length-map q start_number))

unless_numbers : (d : Result Unit Refusal) (l : List (List Start)) → answer_numbers (unless d (head_of l)) ≡ numbered d (placed_numbers l) none_numbers
unless_numbers (Ok tt) [] = refl
unless_numbers (Ok tt) (q ∷ l) = ap (λ (s : List ℕ). 0 ∷ 1 ∷ length q ∷ s) (starts_padded max_patterns q)
unless_numbers (Err r) l = refl

check_numbers_lem : (d : Result Unit Refusal) → check_numbers d ≡ numbered d [] []
check_numbers_lem (Ok tt) = refl
check_numbers_lem (Err r) = refl

-- ---- of what the entries answer

pub write_numbers_lem : (lim : Limits) (t : Table) (out : List ℕ) → write_numbers (writes lim t out) ≡ write_in_numbers lim t (length out)
unfolding writes
write_numbers_lem lim t out = written_numbers (writing_check lim t (length out)) (length (canonical_text t))

pub packet_numbers_lem : (p decoded : List ℕ) → packet_numbers (packet_answer p decoded) ≡ packet_in_numbers p decoded
unfolding packet_answer
packet_numbers_lem p decoded = packet_by_numbers (packet_check p decoded) (datagram_of p)

pub fields_numbers : (payload decoded : List ℕ) (m : FieldMap) → check_numbers (fields_check payload decoded m) ≡ fields_in_numbers payload decoded m
fields_numbers payload decoded m = check_numbers_lem (fields_check payload decoded m)

module _ (t : Table) (p decoded : List ℕ) (dir : Direction) (m : FieldMap) where
  pub verdict_numbers_lem : verdict_numbers (verdict_answer t p decoded dir m) ≡ verdict_in_numbers t p decoded dir m
  unfolding verdict_answer
  verdict_numbers_lem = verdict_by_numbers (input_check t p decoded dir m) (placements_of t p decoded dir m)

  pub first_numbers : answer_numbers (first_answer t p decoded dir m) ≡ first_in_numbers t p decoded dir m
  unfolding first_answer
  first_numbers = unless_numbers (input_check t p decoded dir m) (placements_of t p decoded dir m)

  pub next_numbers : (h : Placement) → answer_numbers (next_answer t p decoded dir m h) ≡ next_in_numbers t p decoded dir m h
  unfolding next_answer
  next_numbers h =
      unless_numbers (and_then (input_check t p decoded dir m) (earlier_check t p decoded dir m h)) (keep (lex_less (starts_of h)) (placements_of t p decoded dir m))

-- ---- an answer with its numbers beside it, as a contract has them

pub read_told : (s : List ℕ) {r : Reading} → r ≡ read document_limits s
    → (r ≡ read document_limits s) × (read_numbers r.outcome ≡ read_in_numbers document_limits s)
read_told s e = (e, ap (λ (x : Reading). read_numbers x.outcome) e)

pub write_told : (t : Table) (out : List ℕ) {r : Result ℕ Refusal} → r ≡ writes document_limits t out
    → write_numbers r ≡ write_in_numbers document_limits t (length out)
write_told t out e = ap write_numbers e ∙ write_numbers_lem document_limits t out

pub packet_told : (p decoded : List ℕ) {r : Result PacketHeader Refusal} → r ≡ packet_answer p decoded
    → (r ≡ packet_answer p decoded) × (packet_numbers r ≡ packet_in_numbers p decoded)
packet_told p decoded e = (e, ap packet_numbers e ∙ packet_numbers_lem p decoded)

pub fields_told : (payload decoded : List ℕ) (m : FieldMap) {r : Result Unit Refusal} → r ≡ fields_check payload decoded m
    → (r ≡ fields_check payload decoded m) × (check_numbers r ≡ fields_in_numbers payload decoded m)
fields_told payload decoded m e = (e, ap check_numbers e ∙ fields_numbers payload decoded m)

module _ (t : Table) (p decoded : List ℕ) (dir : Direction) (m : FieldMap) where
  pub verdict_told : {r : Result Verdict Refusal} → r ≡ verdict_answer t p decoded dir m
      → (r ≡ verdict_answer t p decoded dir m) × (verdict_numbers r ≡ verdict_in_numbers t p decoded dir m)
  verdict_told e = (e, ap verdict_numbers e ∙ verdict_numbers_lem t p decoded dir m)

  pub first_told : {r : Answer} → r ≡ first_answer t p decoded dir m
      → (r ≡ first_answer t p decoded dir m) × (answer_numbers r ≡ first_in_numbers t p decoded dir m)
  first_told e = (e, ap answer_numbers e ∙ first_numbers t p decoded dir m)

  pub next_told : (h : Placement) {r : Answer} → r ≡ next_answer t p decoded dir m h
      → (r ≡ next_answer t p decoded dir m h) × (answer_numbers r ≡ next_in_numbers t p decoded dir m h)
  next_told h e = (e, ap answer_numbers e ∙ next_numbers t p decoded dir m h)

-- ---- the number alone is that of what is due

abbrev first : List ℕ → ℕ
first l = get_or l 0 0

number_due : (d : Result Unit Refusal) (v w : List ℕ) → first (numbered d v w) ≡ check_number d
number_due (Ok tt) v w = refl
number_due (Err r) v w = refl

pub write_number_lem : (lim : Limits) (t : Table) (out : List ℕ) → write_number (writes lim t out) ≡ check_number (writing_check lim t (length out))
write_number_lem lim t out = ap first (write_numbers_lem lim t out) ∙ number_due (writing_check lim t (length out)) (length (canonical_text t) ∷ []) (0 ∷ [])

pub packet_number_lem : (p decoded : List ℕ) → packet_number (packet_answer p decoded) ≡ check_number (packet_check p decoded)
packet_number_lem p decoded = ap first (packet_numbers_lem p decoded) ∙ number_due (packet_check p decoded) (header_numbers (header_of (datagram_of p))) []

module _ (t : Table) (p decoded : List ℕ) (dir : Direction) (m : FieldMap) where
  abbrev due : Result Unit Refusal
  due = input_check t p decoded dir m

  abbrev list : List (List Start)
  list = placements_of t p decoded dir m

  pub verdict_number_lem : verdict_number (verdict_answer t p decoded dir m) ≡ check_number due
  verdict_number_lem = ap first (verdict_numbers_lem t p decoded dir m) ∙ number_due due (met_number list ∷ []) (0 ∷ [])

  pub first_number : found_number (first_answer t p decoded dir m).found ≡ check_number due
  first_number = ap first (first_numbers t p decoded dir m) ∙ number_due due (placed_numbers list) none_numbers

  pub next_number_lem : (h : Placement) → found_number (next_answer t p decoded dir m h).found ≡ check_number (and_then due (earlier_check t p decoded dir m h))
  next_number_lem h =
      ap first (next_numbers t p decoded dir m h)
      ∙ number_due (and_then due (earlier_check t p decoded dir m h)) (placed_numbers (keep (lex_less (starts_of h)) list)) none_numbers
