-- The verdict, "first" and "next". Sections "Numbers of refusal" (order 20, 30 to 36) and "Meaning".
use Rattle.std.specs.Prelude.{ℕ, not, List, [], ◌∷◌, length, take, eqb, Result, Ok, Err}
use Rattle.definitions.specs.declared.table.Table.{Table}
use Rattle.definitions.specs.declared.packets.Direction.{Direction}
use Rattle.definitions.specs.declared.packets.FieldMap.{FieldMap}
use Rattle.definitions.specs.declared.packets.Start.{Start}
use Rattle.definitions.specs.declared.packets.Placement.{Placement}
use Rattle.definitions.specs.declared.answers.Refusal.{Refusal}
use Rattle.definitions.specs.declared.answers.Refusal.TheVariants as refusal
use Rattle.definitions.specs.declared.answers.Verdict.{Verdict}
use Rattle.definitions.specs.declared.answers.Verdict.TheVariants as verdict
use Rattle.definitions.specs.declared.answers.Found.TheVariants.{Placed, Nothing}
use Rattle.definitions.specs.declared.answers.Answer.{Answer}
use Rattle.definitions.specs.Limits.{max_patterns}
use Rattle.definitions.specs.Lists.{keep, padded}
use Rattle.definitions.specs.Starts.{start_at}
use Rattle.definitions.specs.Refusals.{refuse_if, and_then}
use Rattle.definitions.specs.WellFormed.{well_formed}
use Rattle.definitions.specs.Packet.{datagram_of, payload_of, packet_check}
use Rattle.definitions.specs.Fields.{view_of, fields_check}
use Rattle.definitions.specs.Placements.{lex_less, items_of, positives, listed}

-- a placement's starts; and the placement with the starts q, unused room zero
abbrev pub starts_of : Placement → List Start
starts_of h = take h.count h.starts

abbrev pub placement_of : List Start → Placement
placement_of q = record { count = length q; starts = padded max_patterns (start_at 0) q }

-- the placement of a refusal, and of none, has count 0
abbrev pub found_answer : List Start → Answer
found_answer q = record { found = Ok Placed; placement = placement_of q }

abbrev pub none_answer : Answer
none_answer = record { found = Ok Nothing; placement = placement_of [] }

abbrev pub refused_answer : Refusal → Answer
refused_answer r = record { found = Err r; placement = placement_of [] }

-- the first of a list of placements, or none
abbrev pub head_of : List (List Start) → Answer
head_of [] = none_answer
head_of (q ∷ qs) = found_answer q

abbrev pub unless : Result Unit Refusal → Answer → Answer
unless (Ok tt) a = a
unless (Err r) a = refused_answer r

abbrev pub verdict_by : Result Unit Refusal → List (List Start) → Result Verdict Refusal
verdict_by (Ok tt) [] = Ok verdict.NotMet
verdict_by (Ok tt) (q ∷ qs) = Ok verdict.Met
verdict_by (Err r) l = Err r

-- a table, a lent packet and a lent decoded buffer, a direction and a map
module _ (t : Table) (p decoded : List ℕ) (dir : Direction) (m : FieldMap) where
  -- 20, then 30 to 35
  unfoldable pub input_check : Result Unit Refusal
  input_check =
      refuse_if (not (well_formed t)) refusal.IllFormed
      (and_then (packet_check p decoded) (fields_check (payload_of (datagram_of p)) decoded m))

  unfoldable pub placements_of : List (List Start)
  placements_of = listed t (view_of p decoded m) dir

  -- THE VERDICT: met exactly if some placement meets the table
  unfoldable pub verdict_answer : Result Verdict Refusal
  verdict_answer = verdict_by input_check placements_of

  -- FIRST: the first of the list of placements, or none
  unfoldable pub first_answer : Answer
  first_answer = unless input_check (head_of placements_of)

  -- 36: the earlier placement's count is not the number of positive patterns
  abbrev pub earlier_check : Placement → Result Unit Refusal
  earlier_check h = refuse_if (not (eqb h.count (positives (items_of t)))) refusal.EarlierCount (Ok tt)

  -- NEXT: the least of the list after the earlier placement, or none
  unfoldable pub next_answer : Placement → Answer
  next_answer h = unless (and_then input_check (earlier_check h)) (head_of (keep (lex_less (starts_of h)) placements_of))
