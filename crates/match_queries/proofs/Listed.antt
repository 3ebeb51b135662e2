-- ALL PLACEMENTS IN ORDER, THEN NONE. Where none of 20 and 30 to 35 is due and the list has m placements, "first" and then m times "next" answer these m in
-- their order, then none: of any answers that the contracts of the two entries allow (`allowed_lists`), and of what `run` writes (`run_lists`). With no
-- positive pattern that is one empty placement or none (`allowed_empty`, `run_empty`).
use Rattle.std.specs.Prelude.{Ok}
use mathlib.Core.Path.{◌≡◌, sym, ap, ◌∙◌, subst}
use mathlib.Core.Bool.{Bool, true}
use mathlib.Core.Logic.{◌⊎◌, inl, inr, ⊎_elim}
use mathlib.Core.List.{List, [], ◌∷◌, ◌++◌, map}
use Prim.Native.Nat.{ℕ, ◌*◌}
use lib.ListN.{length, drop, replicate}
use contract.Lifetimes.{Lfts}
use denote.Triple.Clauses.{AtExit}
use denote.Ref.{Bor, MutBor}
use borrow.Fn.Kinds.{ended_of}
use Rattle.definitions.specs.declared.table.Table.{Table}
use Rattle.definitions.specs.declared.packets.Direction.{Direction}
use Rattle.definitions.specs.declared.packets.FieldMap.{FieldMap}
use Rattle.definitions.specs.declared.packets.Start.{Start}
use Rattle.definitions.specs.declared.packets.Placement.{Placement}
use Rattle.definitions.specs.declared.answers.Refusal.TheVariants as refusal
use Rattle.definitions.specs.declared.answers.Answer.{Answer}
use Rattle.definitions.specs.declared.answers.Query.{Query}
use Rattle.definitions.specs.declared.answers.Query.TheVariants.{First, Next}
use Rattle.definitions.specs.Lists.{keep}
use Rattle.definitions.specs.Placements.{positives, items_of}
use Rattle.definitions.specs.Answers.{found_answer, none_answer, refused_answer, input_check, placements_of, first_answer, next_answer}
use Rattle.definitions.specs.Queries.{answers}
use Rattle.definitions.specs.IpId.{holds_ip_id}
use Rattle.laws.proofs.OldKind.{answers_ip_id}
use Rattle.laws.proofs.QueryModel.{all_listed, empty_or_none}
use Rattle.match_numbers.specs.Numbers.{numbers_of_one}
use Rattle.match_queries.specs.Runs.{query_of_byte, all_numbers, room, written}
use Rattle.match_queries.proofs.run.Reads as run
use Rattle.match_queries.proofs.run.Kinds as run-kinds
use Rattle.match_queries.proofs.Running.{answers_length}
use Rattle.match_queries.proofs.Contracts.{Allowed, allowed_is_model}

-- ---- with no positive pattern, by the definitions

module _ (t : Table) (p d : List ℕ) (dir : Direction) (m : FieldMap) where
  -- what is claimed of none twice where the list is empty, or of the empty placement and then none where that is the list
  abbrev pub EmptyOrNone : (List Answer → Type 0) → Type 0
  EmptyOrNone claim =
      ((placements_of t p d dir m ≡ []) × claim (none_answer ∷ none_answer ∷ []))
      ⊎ ((placements_of t p d dir m ≡ [] ∷ []) × claim (found_answer [] ∷ none_answer ∷ []))

  module _ (check : input_check t p d dir m ≡ Ok tt) (none : positives (items_of t) ≡ 0) (h : Placement) where
    none_twice : placements_of t p d dir m ≡ [] → answers t p d dir m h (First ∷ Next ∷ []) ≡ none_answer ∷ none_answer ∷ []
    unfolding answers first_answer next_answer keep
    none_twice e = rw (check, e, none)

    one_then_none : placements_of t p d dir m ≡ [] ∷ [] → answers t p d dir m h (First ∷ Next ∷ []) ≡ found_answer [] ∷ none_answer ∷ []
    one_then_none e =
        subst (λ (l : List (List Start)). answers t p d dir m h (First ∷ replicate (length l) Next) ≡ map found_answer l ++ (none_answer ∷ [])) e
        (all_listed t p d dir m check h)

    -- of the answers, whatever is claimed of what they are equal to
    empty_claims : (claim : List Answer → Type 0) → ((rs : List Answer) → answers t p d dir m h (First ∷ Next ∷ []) ≡ rs → claim rs) → EmptyOrNone claim
    empty_claims claim f =
        ⊎_elim (λ e. inl (e, f (none_answer ∷ none_answer ∷ []) (none_twice e))) (λ e. inr (e, f (found_answer [] ∷ none_answer ∷ []) (one_then_none e)))
        (empty_or_none t p d dir m none)

-- ---- by the contracts of the two entries

module _ (κs : Lfts 1) (t : Table) (p d : Bor (List ℕ)) (dir : Direction) (m : FieldMap) (check : input_check t p.now d.now dir m ≡ Ok tt)
    (h : Placement) (rs : List Answer) where
  pub allowed_lists : Allowed κs t p d dir m h (First ∷ replicate (length (placements_of t p.now d.now dir m)) Next) rs
      → rs ≡ map found_answer (placements_of t p.now d.now dir m) ++ (none_answer ∷ [])
  allowed_lists a = allowed_is_model κs t p d dir m a ∙ all_listed t p.now d.now dir m check h

  pub allowed_empty : positives (items_of t) ≡ 0 → Allowed κs t p d dir m h (First ∷ Next ∷ []) rs → EmptyOrNone t p.now d.now dir m (λ l. rs ≡ l)
  allowed_empty none a = empty_claims t p.now d.now dir m check none h (λ l. rs ≡ l) (λ l e. allowed_is_model κs t p d dir m a ∙ e)

-- ---- by what `run` writes: `r` is its answer, `s` what its arguments are at its exit

module _ (κs : Lfts 3) (t : Table) (p d : Bor (List ℕ)) (dir : Direction) (m : FieldMap) (held : Placement) (queries : Bor (List ℕ)) (out : MutBor (List ℕ)) (r : Bool)
    (s : AtExit (ended_of 3 run-kinds.ps run-kinds.r) κs) (post : run.Post κs (t, (p, (d, (dir, (m, (held, (queries, (out, tt)))))))) r s) where
  -- the buffer afterwards
  abbrev pub after : List ℕ
  after = s.1.1.1.1.1.1.1.0.now

  -- it answers true, and the buffer has the numbers of these answers, and after them what stood there
  abbrev pub Answers : List Answer → Type 0
  Answers rs = (r ≡ true) × (after ≡ all_numbers rs ++ drop (length rs * numbers_of_one) out.now)

  module _ (fits : room queries.now out.now ≡ true) where
    run_answers : (rs : List Answer) → answers t p.now d.now dir m held (map query_of_byte queries.now) ≡ rs → Answers rs
    unfolding written
    run_answers rs e =
        let n : length queries.now ≡ length rs = sym (answers_length t p.now d.now dir m held queries.now) ∙ ap length e in
        (post.0 ∙ fits, post.1 ∙ rw (fits, e, n))

    -- of a table that holds an item of the old kind (document 02, T-09) each answer is refusal 20
    pub run_refuses_ip_id : holds_ip_id t ≡ true → Answers (map (λ (q : Query). refused_answer refusal.IllFormed) (map query_of_byte queries.now))
    run_refuses_ip_id h = run_answers _ (answers_ip_id t h p.now d.now dir m held (map query_of_byte queries.now))

  module _ (fits : room queries.now out.now ≡ true) (check : input_check t p.now d.now dir m ≡ Ok tt) where
    pub run_lists : map query_of_byte queries.now ≡ First ∷ replicate (length (placements_of t p.now d.now dir m)) Next
        → Answers (map found_answer (placements_of t p.now d.now dir m) ++ (none_answer ∷ []))
    run_lists queried = run_answers fits _ (ap (answers t p.now d.now dir m held) queried ∙ all_listed t p.now d.now dir m check held)

    pub run_empty : positives (items_of t) ≡ 0 → map query_of_byte queries.now ≡ First ∷ Next ∷ [] → EmptyOrNone t p.now d.now dir m Answers
    run_empty none queried =
        empty_claims t p.now d.now dir m check none held Answers (λ rs e. run_answers fits rs (ap (answers t p.now d.now dir m held) queried ∙ e))
