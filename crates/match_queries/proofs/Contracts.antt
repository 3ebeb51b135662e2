-- DEMAND 3 BY THE CONTRACTS ALONE: whatever answers the contracts of the matcher's "first" and "next" allow, query by query, the whole list of them is the
-- model's. `first.Post` and `next.Post` are these contracts as the check reads them.
use mathlib.Core.Path.{◌≡◌, refl, ap, ◌∙◌}
use mathlib.Core.List.{List, [], ◌∷◌}
use Prim.Native.Nat.{ℕ}
use contract.Lifetimes.{Lfts}
use denote.Triple.Clauses.{AtExit}
use denote.Ref.{Bor}
use borrow.Fn.Kinds.{ended_of}
use Rattle.definitions.specs.declared.table.Table.{Table}
use Rattle.definitions.specs.declared.packets.Direction.{Direction}
use Rattle.definitions.specs.declared.packets.FieldMap.{FieldMap}
use Rattle.definitions.specs.declared.packets.Placement.{Placement}
use Rattle.definitions.specs.declared.answers.Answer.{Answer}
use Rattle.definitions.specs.declared.answers.Query.{Query}
use Rattle.definitions.specs.declared.answers.Query.TheVariants.{First, Next}
use Rattle.definitions.specs.Answers.{first_answer, next_answer}
use Rattle.definitions.specs.Queries.{answers}
use Rattle.laws.proofs.Numbers.{first_told, next_told}
use Rattle.matcher.proofs.first.Reads as first
use Rattle.matcher.proofs.first.Kinds as first-kinds
use Rattle.matcher.proofs.next.Reads as next
use Rattle.matcher.proofs.next.Kinds as next-kinds

module _ (κs : Lfts 1) (t : Table) (p d : Bor (List ℕ)) (dir : Direction) (m : FieldMap) where
  -- the answers rs to the queries, where a "next" is handed the placement of the answer before, at the start h
  pub data Allowed : Placement → List Query → List Answer → Type 0 where
    done : {h : Placement} → Allowed h [] []
    by_first : {h : Placement} {queries : List Query} {r : Answer} {rs : List Answer} (s : AtExit (ended_of 1 first-kinds.ps first-kinds.r) κs)
        → first.Post κs (t, (p, (d, (dir, (m, tt))))) r s → Allowed r.placement queries rs → Allowed h (First ∷ queries) (r ∷ rs)
    by_next : {h : Placement} {queries : List Query} {r : Answer} {rs : List Answer} (s : AtExit (ended_of 1 next-kinds.ps next-kinds.r) κs)
        → next.Post κs (t, (p, (d, (dir, (m, (h, tt)))))) r s → Allowed r.placement queries rs → Allowed h (Next ∷ queries) (r ∷ rs)

  pub allowed_is_model : {h : Placement} {queries : List Query} {rs : List Answer} → Allowed h queries rs → rs ≡ answers t p.now d.now dir m h queries
  unfolding answers
  allowed_is_model done = refl
  allowed_is_model (by_first {queries = queries} {r = r} s e rest) =
      ap (λ (l : List Answer). r ∷ l) (allowed_is_model rest) ∙ ap (λ (x : Answer). x ∷ answers t p.now d.now dir m x.placement queries) e.0
  allowed_is_model (by_next {queries = queries} {r = r} s e rest) =
      ap (λ (l : List Answer). r ∷ l) (allowed_is_model rest) ∙ ap (λ (x : Answer). x ∷ answers t p.now d.now dir m x.placement queries) e.0

  -- and the model's list is allowed
  pub model_is_allowed : (h : Placement) (queries : List Query) → Allowed h queries (answers t p.now d.now dir m h queries)
  unfolding answers
  model_is_allowed h [] = done
  model_is_allowed h (First ∷ queries) = by_first (t, (p, (d, (dir, (m, tt))))) (first_told t p.now d.now dir m refl) (model_is_allowed (first_answer t p.now d.now dir m).placement queries)
  model_is_allowed h (Next ∷ queries) = by_next (t, (p, (d, (dir, (m, (h, tt)))))) (next_told t p.now d.now dir m h refl) (model_is_allowed (next_answer t p.now d.now dir m h).placement queries)
