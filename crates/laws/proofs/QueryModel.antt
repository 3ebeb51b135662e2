-- Where none of 20 and 30 to 35 is due and the list has m placements, "first" and then m times "next" answer these m in their order, then
-- none (`all_listed`): of a rising list, those after one of it are those that follow it. Where one is due, each query of every list gets the first due
-- (`all_refused`).
use Rattle.std.specs.Prelude.{Ok, Err}
use mathlib.Core.Path.{◌≡◌, refl, sym, ap, ◌∙◌, subst}
use mathlib.Core.Bool.{true, false≢true}
use mathlib.Core.Logic.{◌⊎◌, inl, inr}
use mathlib.Core.List.Memᴰ.{append_right}
use mathlib.Core.List.Memᴰ.{head as here}
use mathlib.Core.List.Memᴰ.{tail as there}
use mathlib.Core.List.{List, [], ◌∷◌, ◌++◌, map, Memᴰ as Mem}
use Prim.Native.Nat.{ℕ, suc, ◌-◌}
use native.Mathlib.Omega.{arith}
use lib.ListN.{length, replicate}
use lib.Seq.{take-append_seam, append_snoc}
use borrow.Author.Tests.{eq-eqb}
use Rattle.definitions.specs.declared.packets.Direction.{Direction}
use Rattle.definitions.specs.declared.table.Table.{Table}
use Rattle.definitions.specs.declared.packets.FieldMap.{FieldMap}
use Rattle.definitions.specs.declared.packets.Start.{Start}
use Rattle.definitions.specs.declared.packets.Placement.{Placement}
use Rattle.definitions.specs.declared.answers.Refusal.{Refusal}
use Rattle.definitions.specs.declared.answers.Answer.{Answer}
use Rattle.definitions.specs.declared.answers.Query.{Query}
use Rattle.definitions.specs.declared.answers.Query.TheVariants.{First, Next}
use Rattle.definitions.specs.Limits.{max_patterns}
use Rattle.definitions.specs.Starts.{start_at}
use Rattle.definitions.specs.Fields.{view_of}
use Rattle.definitions.specs.Placements.{lex_less, positives, items_of}
use Rattle.definitions.specs.Answers.{placement_of, found_answer, none_answer, refused_answer, head_of, input_check, placements_of, first_answer, next_answer}
use Rattle.definitions.specs.Queries.{answers}
use Rattle.laws.proofs.LexOrder.{lex_less-not-self}
use Rattle.laws.proofs.Rising.{Rising, keep_after}
use Rattle.laws.proofs.Listing.{listed_length}
use Rattle.laws.proofs.Least.{placements_rise}

module _ (t : Table) (p decoded : List ℕ) (dir : Direction) (m : FieldMap) where
  each_length : (q : List Start) → Mem q (placements_of t p decoded dir m) → length q ≡ positives (items_of t)
  unfolding placements_of
  each_length q n = listed_length t (view_of p decoded m) dir q n

  module _ (check : input_check t p decoded dir m ≡ Ok tt) where
    next_after : (pre : List (List Start)) (q : List Start) (rest : List (List Start)) → placements_of t p decoded dir m ≡ pre ++ q ∷ rest
        → next_answer t p decoded dir m (placement_of q) ≡ head_of rest
    unfolding next_answer
    next_after pre q rest e =
        let n : Mem q (placements_of t p decoded dir m) = subst (λ (l : List (List Start)). Mem q l) (sym e) (append_right pre (here refl)) in
        rw (check, eq-eqb (length q) (positives (items_of t)) (each_length q n), take-append_seam q (replicate (max_patterns - length q) (start_at 0)), e)
        (ap head_of (keep_after pre q rest (subst Rising e (placements_rise t p decoded dir m))))

    from_one_lem : (pre : List (List Start)) (q : List Start) (rest : List (List Start)) → placements_of t p decoded dir m ≡ pre ++ q ∷ rest
        → answers t p decoded dir m (placement_of q) (replicate (suc (length rest)) Next) ≡ map found_answer rest ++ (none_answer ∷ [])
    unfolding answers
    from_one_lem pre q [] e = rw (next_after pre q [] e)
    from_one_lem pre q (r ∷ rest) e =
        rw (next_after pre q (r ∷ rest) e)
        (ap (λ (l : List Answer). found_answer r ∷ l) (from_one_lem (pre ++ (q ∷ [])) r rest (e ∙ sym (append_snoc pre q (r ∷ rest)))))

    from_list : (l : List (List Start)) (h : Placement) → placements_of t p decoded dir m ≡ l
        → answers t p decoded dir m h (First ∷ replicate (length l) Next) ≡ map found_answer l ++ (none_answer ∷ [])
    unfolding answers first_answer
    from_list [] h e = rw (check, e)
    from_list (q ∷ rest) h e = rw (check, e) (ap (λ (l : List Answer). found_answer q ∷ l) (from_one_lem [] q rest e))

    pub all_listed : (h : Placement)
        → answers t p decoded dir m h (First ∷ replicate (length (placements_of t p decoded dir m)) Next)
        ≡ map found_answer (placements_of t p decoded dir m) ++ (none_answer ∷ [])
    all_listed h = from_list (placements_of t p decoded dir m) h refl

  -- whatever is held
  pub all_refused : (r : Refusal) → input_check t p decoded dir m ≡ Err r → (h : Placement) (queries : List Query)
      → answers t p decoded dir m h queries ≡ map (λ (a : Query). refused_answer r) queries
  unfolding answers first_answer next_answer
  all_refused r e h [] = refl
  all_refused r e h (First ∷ queries) = rw e (ap (λ (l : List Answer). refused_answer r ∷ l) (all_refused r e (placement_of []) queries))
  all_refused r e h (Next ∷ queries) = rw e (ap (λ (l : List Answer). refused_answer r ∷ l) (all_refused r e (placement_of []) queries))

  -- with no positive pattern there is one empty placement or none
  pub empty_or_none : positives (items_of t) ≡ 0 → (placements_of t p decoded dir m ≡ []) ⊎ (placements_of t p decoded dir m ≡ [] ∷ [])
  empty_or_none e = go (placements_of t p decoded dir m) (λ q n. no_start q (each_length q n ∙ e)) (placements_rise t p decoded dir m)
    where
      no_start : (q : List Start) → length q ≡ 0 → q ≡ []
      no_start [] h = refl
      no_start (s ∷ q) h = absurd (omega (arith, h))

      go : (l : List (List Start)) → ((q : List Start) → Mem q l → q ≡ []) → Rising l → (l ≡ []) ⊎ (l ≡ [] ∷ [])
      go [] f r = inl refl
      go (q ∷ []) f r = inr (ap (λ (u : List Start). u ∷ []) (f q (here refl)))
      go (q ∷ (u ∷ l)) f r =
          let after : lex_less q [] ≡ true = subst (λ (x : List Start). lex_less q x ≡ true) (f u (there (here refl))) (r.0 u (here refl)) in
          absurd (false≢true (sym (lex_less-not-self []) ∙ subst (λ (x : List Start). lex_less x [] ≡ true) (f q (here refl)) after))
