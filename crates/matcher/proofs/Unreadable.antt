-- OF THE ENTRIES THEMSELVES: `verdict`, `first` and `next` answer 20 exactly if no text reads as the table that they are given, whatever table that is; so for
-- a table that holds an item of the old kind, ip_id. `good` is what the check knows of the arguments of a call, `post` the contract at its answer r.
use Rattle.std.specs.Prelude.{Result}
use mathlib.Core.Path.{◌≡◌, ap, ◌∙◌}
use mathlib.Core.Bool.{true}
use mathlib.Core.List.{List}
use mathlib.Core.Logic.{◌↔◌}
use Prim.Native.Nat.{ℕ}
use contract.Lifetimes.{Lfts}
use denote.Ref.{Bor}
use denote.Triple.Clauses.{AtExit}
use borrow.Fn.Kinds.{ended_of, GoodsP}
use Rattle.definitions.specs.declared.table.Table.{Table}
use Rattle.definitions.specs.declared.packets.Direction.{Direction}
use Rattle.definitions.specs.declared.packets.FieldMap.{FieldMap}
use Rattle.definitions.specs.declared.packets.Placement.{Placement}
use Rattle.definitions.specs.declared.answers.Verdict.{Verdict}
use Rattle.definitions.specs.declared.answers.Answer.{Answer}
use Rattle.definitions.specs.declared.answers.Refusal.{Refusal}
use Rattle.definitions.specs.Limits.{document_limits}
use Rattle.definitions.specs.Refusals.{verdict_number, found_number}
use Rattle.definitions.specs.WellFormed.{Readable}
use Rattle.definitions.specs.IpId.{holds_ip_id}
use Rattle.laws.proofs.IllFormed.{verdict_ill_formed, first_ill_formed, next_ill_formed}
use Rattle.laws.proofs.OldKind.{verdict_ip_id, first_ip_id, next_ip_id}
use Rattle.roundtrip.proofs.Typed.{twenty_unreadable}
use Rattle.matcher.proofs.verdict.Reads as verdict
use Rattle.matcher.proofs.verdict.Kinds as verdict-kinds
use Rattle.matcher.proofs.first.Reads as first
use Rattle.matcher.proofs.first.Kinds as first-kinds
use Rattle.matcher.proofs.next.Reads as next
use Rattle.matcher.proofs.next.Kinds as next-kinds

-- no text reads as the table
abbrev Unreadable : Table → Type 0
Unreadable t = Readable document_limits.room t → ⊥

module _ (κs : Lfts 1) (t : Table) (p d : Bor (List ℕ)) (dir : Direction) (m : FieldMap) where
  pub verdict_unreadable : (r : Result Verdict Refusal) (s : AtExit (ended_of 1 verdict-kinds.ps verdict-kinds.r) κs)
      → GoodsP κs verdict-kinds.ps (t, (p, (d, (dir, (m, tt))))) → verdict.Post κs (t, (p, (d, (dir, (m, tt))))) r s
      → (verdict_number r ≡ 20) ↔ Unreadable t
  verdict_unreadable r s good post =
      twenty_unreadable t _ good.0 (ap verdict_number post.0) (verdict_ill_formed t p.now d.now dir m)

  pub first_unreadable : (r : Answer) (s : AtExit (ended_of 1 first-kinds.ps first-kinds.r) κs)
      → GoodsP κs first-kinds.ps (t, (p, (d, (dir, (m, tt))))) → first.Post κs (t, (p, (d, (dir, (m, tt))))) r s
      → (found_number r.found ≡ 20) ↔ Unreadable t
  first_unreadable r s good post =
      twenty_unreadable t _ good.0 (ap (λ (a : Answer). found_number a.found) post.0) (first_ill_formed t p.now d.now dir m)

  pub next_unreadable : (h : Placement) (r : Answer) (s : AtExit (ended_of 1 next-kinds.ps next-kinds.r) κs)
      → GoodsP κs next-kinds.ps (t, (p, (d, (dir, (m, (h, tt)))))) → next.Post κs (t, (p, (d, (dir, (m, (h, tt)))))) r s
      → (found_number r.found ≡ 20) ↔ Unreadable t
  next_unreadable h r s good post =
      twenty_unreadable t _ good.0 (ap (λ (a : Answer). found_number a.found) post.0) (next_ill_formed t p.now d.now dir m h)

  -- a table that holds an item of the old kind, whatever else is given
  module _ (holds : holds_ip_id t ≡ true) where
    pub verdict_refuses_ip_id : (r : Result Verdict Refusal) (s : AtExit (ended_of 1 verdict-kinds.ps verdict-kinds.r) κs)
        → verdict.Post κs (t, (p, (d, (dir, (m, tt))))) r s → verdict_number r ≡ 20
    verdict_refuses_ip_id r s post = ap verdict_number post.0 ∙ verdict_ip_id t holds p.now d.now dir m

    pub first_refuses_ip_id : (r : Answer) (s : AtExit (ended_of 1 first-kinds.ps first-kinds.r) κs)
        → first.Post κs (t, (p, (d, (dir, (m, tt))))) r s → found_number r.found ≡ 20
    first_refuses_ip_id r s post = ap (λ (a : Answer). found_number a.found) post.0 ∙ first_ip_id t holds p.now d.now dir m

    pub next_refuses_ip_id : (h : Placement) (r : Answer) (s : AtExit (ended_of 1 next-kinds.ps next-kinds.r) κs)
        → next.Post κs (t, (p, (d, (dir, (m, (h, tt)))))) r s → found_number r.found ≡ 20
    next_refuses_ip_id h r s post = ap (λ (a : Answer). found_number a.found) post.0 ∙ next_ip_id t holds p.now d.now dir m h
