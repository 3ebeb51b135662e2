-- EVERY ANSWER IN THE DOCUMENTS' NUMBERS: its refusal, 0 for none, and then its values. Document 01, sections "Numbers of refusal" and "Meaning", its last
-- paragraph; document 02, T-03. The contract of an entry says what it answers, and what that is in numbers.
use Rattle.std.specs.Prelude.{ℕ, List, [], ◌∷◌, map, length, replicate, Result, Ok, Err}
use Rattle.definitions.specs.declared.table.Table.{Table}
use Rattle.definitions.specs.declared.packets.Direction.{Direction}
use Rattle.definitions.specs.declared.packets.FieldMap.{FieldMap}
use Rattle.definitions.specs.declared.packets.Start.{Start}
use Rattle.definitions.specs.declared.packets.Placement.{Placement}
use Rattle.definitions.specs.declared.packets.PacketHeader.{PacketHeader}
use Rattle.definitions.specs.declared.answers.Verdict.{Verdict}
use Rattle.definitions.specs.declared.answers.Answer.{Answer}
use Rattle.definitions.specs.declared.books.Action.{Action}
use Rattle.definitions.specs.declared.books.Action.TheVariants as action
use Rattle.definitions.specs.declared.books.Decision.{Decision}
use Rattle.definitions.specs.declared.answers.BookRefusal.{BookRefusal}
use Rattle.definitions.specs.declared.answers.Refusal.{Refusal}
use Rattle.definitions.specs.declared.answers.TextRefusal.{TextRefusal}
use Rattle.definitions.specs.Limits.{Limits, max_patterns}
use Rattle.definitions.specs.Lists.{keep, padded}
use Rattle.definitions.specs.Starts.{start_number}
use Rattle.definitions.specs.Refusals.{number_of, check_number, read_number, read_place, write_number, write_length, packet_number, verdict_number, verdict_met}
use Rattle.definitions.specs.Refusals.{found_number, found_one, and_then}
use Rattle.definitions.specs.Reading.{read}
use Rattle.definitions.specs.Canonical.{canonical_text}
use Rattle.definitions.specs.Writing.{writing_check}
use Rattle.definitions.specs.Packet.{datagram_of, header_of, packet_check}
use Rattle.definitions.specs.Fields.{fields_check}
use Rattle.definitions.specs.Placements.{lex_less}
use Rattle.definitions.specs.Answers.{starts_of, input_check, placements_of, earlier_check}
use Rattle.definitions.specs.Books.{judge}
use Rattle.definitions.specs.Decisions.{decision as decisionOf}

-- ---- of an answer, case by case

-- number, place
abbrev pub read_numbers : Result Unit TextRefusal → List ℕ
read_numbers o = read_number o ∷ read_place o ∷ []

-- number, bytes written
abbrev pub write_numbers : Result ℕ Refusal → List ℕ
write_numbers w = write_number w ∷ write_length w ∷ []

-- number, header fields; a refusal has none
abbrev pub header_numbers : PacketHeader → List ℕ
header_numbers h =
    h.total ∷ h.payload ∷ h.protocol ∷ h.tos ∷ h.id ∷ h.ttl ∷ h.checksum ∷ h.source ∷ h.destination ∷ h.sport ∷ h.dport ∷ []

abbrev pub header_values : Result PacketHeader Refusal → List ℕ
header_values (Ok h) = header_numbers h
header_values (Err r) = []

abbrev pub packet_numbers : Result PacketHeader Refusal → List ℕ
packet_numbers a = packet_number a ∷ header_values a

-- a check: number
abbrev pub check_numbers : Result Unit Refusal → List ℕ
check_numbers c = check_number c ∷ []

-- number, 1 for met
abbrev pub verdict_numbers : Result Verdict Refusal → List ℕ
verdict_numbers v = verdict_number v ∷ verdict_met v ∷ []

-- number, 1 for found, count, starts and unused room
abbrev pub answer_numbers : Answer → List ℕ
answer_numbers a = found_number a.found ∷ found_one a.found ∷ a.placement.count ∷ map start_number a.placement.starts

-- a book: number, line, how many rules
abbrev pub judgement_numbers : Result ℕ BookRefusal → List ℕ
judgement_numbers (Ok n) = 0 ∷ 0 ∷ n ∷ []
judgement_numbers (Err e) = number_of e.refusal ∷ e.line ∷ 0 ∷ []

-- a decision: number, line, 1 for pass, rule; a refusal passes nothing
abbrev pub pass_number : Action → ℕ
pass_number action.Pass = 1
pass_number action.Hold = 0

abbrev pub decision_numbers : Result Decision BookRefusal → List ℕ
decision_numbers (Ok d) = 0 ∷ 0 ∷ pass_number d.action ∷ d.rule ∷ []
decision_numbers (Err e) = number_of e.refusal ∷ e.line ∷ 0 ∷ 0 ∷ []

-- ---- of what an entry is given

-- the number of what is due and the values beside it: v where nothing is due, else w
abbrev pub numbered : Result Unit Refusal → List ℕ → List ℕ → List ℕ
numbered (Ok tt) v w = 0 ∷ v
numbered (Err r) v w = number_of r ∷ w

-- reading a text: 1 to 12, and the place; a success has number and place 0
abbrev pub read_in_numbers : Limits → List ℕ → List ℕ
read_in_numbers lim s = read_numbers (read lim s).outcome

-- writing a table into a buffer of n bytes: 20 to 22, and nothing is written; else the canonical text's length
abbrev pub write_in_numbers : Limits → Table → ℕ → List ℕ
write_in_numbers lim t n = numbered (writing_check lim t n) (length (canonical_text t) ∷ []) (0 ∷ [])

-- a packet: 30 to 34, else its header fields
abbrev pub packet_in_numbers : List ℕ → List ℕ → List ℕ
packet_in_numbers p decoded = numbered (packet_check p decoded) (header_numbers (header_of (datagram_of p))) []

-- a packet's fields: 35
abbrev pub fields_in_numbers : List ℕ → List ℕ → FieldMap → List ℕ
fields_in_numbers payload decoded m = numbered (fields_check payload decoded m) [] []

-- met if the list of placements is not empty
abbrev pub met_number : List (List Start) → ℕ
met_number [] = 0
met_number (q ∷ qs) = 1

-- the first of a list of placements: found, count, starts, unused room zero. None's placement, and a refusal's, has count 0
abbrev pub none_numbers : List ℕ
none_numbers = 0 ∷ 0 ∷ replicate max_patterns 0

abbrev pub placed_numbers : List (List Start) → List ℕ
placed_numbers [] = none_numbers
placed_numbers (q ∷ qs) = 1 ∷ length q ∷ padded max_patterns 0 (map start_number q)

module _ (t : Table) (p decoded : List ℕ) (dir : Direction) (m : FieldMap) where
  -- the verdict: 20, 30 to 35, else met or not
  abbrev pub verdict_in_numbers : List ℕ
  verdict_in_numbers = numbered (input_check t p decoded dir m) (met_number (placements_of t p decoded dir m) ∷ []) (0 ∷ [])

  -- first: 20, 30 to 35, else the first of the list of placements
  abbrev pub first_in_numbers : List ℕ
  first_in_numbers = numbered (input_check t p decoded dir m) (placed_numbers (placements_of t p decoded dir m)) none_numbers

  -- next: 20, 30 to 36, else the least of the list after the earlier placement
  abbrev pub next_in_numbers : Placement → List ℕ
  next_in_numbers h =
      numbered (and_then (input_check t p decoded dir m) (earlier_check t p decoded dir m h))
      (placed_numbers (keep (lex_less (starts_of h)) (placements_of t p decoded dir m)))
      none_numbers

-- judging a book: 1 to 12 and 50 to 53 with the line, else how many rules it has
abbrev pub judgement_in_numbers : Limits → List ℕ → List ℕ
judgement_in_numbers lim book = judgement_numbers (judge lim book)

-- deciding: the same refusals, else pass or hold and the rule
abbrev pub decision_in_numbers : Limits → List ℕ → List ℕ → Direction → FieldMap → List ℕ → List ℕ
decision_in_numbers lim p decoded dir m book = decision_numbers (decisionOf lim p decoded dir m book)
