-- From the refusal that is due, or the answer by header fields and payload, to the answer of an entry.
use Rattle.std.specs.Prelude.{Result, Ok, Err}
use mathlib.Core.Path.{◌≡◌, refl, ap}
use mathlib.Core.Bool.{true, false}
use mathlib.Core.List.{List, [], ◌∷◌}
use Prim.Native.Nat.{ℕ}
use Rattle.definitions.specs.declared.table.Table.{Table}
use Rattle.definitions.specs.declared.packets.Direction.{Direction}
use Rattle.definitions.specs.declared.packets.PacketHeader.{PacketHeader}
use Rattle.definitions.specs.declared.packets.FieldMap.{FieldMap}
use Rattle.definitions.specs.declared.packets.Start.{Start}
use Rattle.definitions.specs.declared.packets.Placement.{Placement}
use Rattle.definitions.specs.declared.answers.Refusal.{Refusal}
use Rattle.definitions.specs.declared.answers.Answer.{Answer}
use Rattle.definitions.specs.WellFormed.{well_formed}
use Rattle.definitions.specs.Packet.{packet_answer}
use Rattle.definitions.specs.Fields.{fields_check}
use Rattle.definitions.specs.Answers.{refused_answer, head_of, unless, verdict_by, verdict_answer, first_answer, next_answer}
use Rattle.definitions.specs.Decisions.{is_met}
use Rattle.match_answers.specs.Verdicts.{verdict_of}
use Rattle.match_checks.specs.InputChecks.{input_header}
use Rattle.match_placements.specs.Listing.{list_in, first_in_list, next_in_list}
use Rattle.match_placements.proofs.CheckedInput.{CheckedInput, refused_check, check_here, list_here}

-- ---- a refusal is due: a is what the checks answered, x the answer given

module _ (t : Table) (p d : List ℕ) (dir : Direction) (m : FieldMap) {a : Result PacketHeader Refusal} (e : a ≡ input_header (well_formed t) p d) {r : Refusal}
    (k : a ≡ Err r) where
  pub verdict_refused : Err r ≡ verdict_answer t p d dir m
  unfolding verdict_answer
  verdict_refused = rw (refused_check t p d e k dir m)

  pub first_refused : {x : Answer} → x ≡ refused_answer r → x ≡ first_answer t p d dir m
  unfolding first_answer
  first_refused g = rw (refused_check t p d e k dir m) g

  pub next_refused : (h : Placement) {x : Answer} → x ≡ refused_answer r → x ≡ next_answer t p d dir m h
  unfolding next_answer
  next_refused h g = rw (refused_check t p d e k dir m) g

-- then the table is not met
pub unmet_refused : (t : Table) (p d : List ℕ) (dir : Direction) (m : FieldMap) (a : Result PacketHeader Refusal) → a ≡ input_header (well_formed t) p d
    → ((f : PacketHeader) → a ≡ Ok f → ⊥) → false ≡ is_met (verdict_answer t p d dir m)
unmet_refused t p d dir m (Ok f) e n = absurd (n f refl)
unmet_refused t p d dir m (Err r) e n = ap is_met (verdict_refused t p d dir m e refl)

-- ---- the packet passed its checks: f and s are its header fields and payload

verdict_head : (w : Result Unit Refusal) (l : List (List Start)) → verdict_of (unless w (head_of l)).found ≡ verdict_by w l
verdict_head (Ok tt) [] = refl
verdict_head (Ok tt) (q ∷ l) = refl
verdict_head (Err r) l = refl

module _ {t : Table} {p d : List ℕ} {f : PacketHeader} {s : List ℕ} (c : CheckedInput t p d f s) (dir : Direction) (m : FieldMap) where
  pub verdict_here : verdict_of (first_in_list t f s d dir m).found ≡ verdict_answer t p d dir m
  unfolding first_in_list verdict_answer
  verdict_here = rw (check_here c dir m, list_here c dir m) (verdict_head (fields_check s d m) (list_in t f s d dir m))

  pub first_here : first_in_list t f s d dir m ≡ first_answer t p d dir m
  unfolding first_in_list first_answer
  first_here = rw (check_here c dir m, list_here c dir m)

  pub next_here : (h : Placement) → next_in_list t f s d dir m h ≡ next_answer t p d dir m h
  unfolding next_in_list next_answer
  next_here h = rw (check_here c dir m, list_here c dir m)

-- ---- a table that is known to be well formed

pub formed_header : (t : Table) (p d : List ℕ) → well_formed t ≡ true → packet_answer p d ≡ input_header (well_formed t) p d
unfolding packet_answer
formed_header t p d e = rw e
