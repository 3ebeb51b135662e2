-- What "next" answers is the least of the list of placements after the earlier one, and none if none is after it (`next_least`). The list
-- rises, so what it keeps of itself rises too, and the first of that is its least.
use Rattle.std.specs.Prelude.{Ok}
use mathlib.Core.Path.{◌≡◌, refl, sym, ◌∙◌, subst}
use mathlib.Core.Logic.{◌⊎◌, inl, inr, ◌↔◌}
use mathlib.Core.Bool.{Bool, true, false, true≢false}
use mathlib.Core.List.Memᴰ.{cases_cons}
use mathlib.Core.List.Memᴰ.{head as here}
use mathlib.Core.List.Memᴰ.{not-nil}
use mathlib.Core.List.{List, [], ◌∷◌, Memᴰ as Mem}
use Prim.Native.Nat.{ℕ}
use Rattle.definitions.specs.declared.packets.Direction.{Direction}
use Rattle.definitions.specs.declared.table.Table.{Table}
use Rattle.definitions.specs.declared.packets.FieldMap.{FieldMap}
use Rattle.definitions.specs.declared.packets.Start.{Start}
use Rattle.definitions.specs.declared.packets.Placement.{Placement}
use Rattle.definitions.specs.Fields.{view_of}
use Rattle.definitions.specs.Lists.{keep}
use Rattle.definitions.specs.Refusals.{and_then}
use Rattle.definitions.specs.Placements.{lex_less}
use Rattle.definitions.specs.Answers.{starts_of, found_answer, none_answer, input_check, placements_of, earlier_check, next_answer}
use Rattle.laws.proofs.Keep.{keep_in, keep_of}
use Rattle.laws.proofs.Rising.{Rising, keep_rises}
use Rattle.laws.proofs.Listing.{listed_rising}

-- q is of the list, is after b, and each other one of the list that is after b is after q
pub record Least (b q : List Start) (l : List (List Start)) : Type 0 where
  pub listed : Mem q l
  pub after : lex_less b q ≡ true
  pub least : (u : List Start) → Mem u l → lex_less b u ≡ true → (u ≡ q) ⊎ (lex_less q u ≡ true)

-- none of the list is after b
abbrev pub NoneAfter : List Start → List (List Start) → Type 0
NoneAfter b l = (u : List Start) → Mem u l → lex_less b u ≡ false

-- ---- of a rising list

kept_least : (b q : List Start) (qs l : List (List Start)) → Rising l → keep (lex_less b) l ≡ q ∷ qs → Least b q l
kept_least b q qs l r e =
    let w = keep_in (lex_less b) q l (subst (λ (k : List (List Start)). Mem q k) (sym e) (here refl)) in
    let rises : Rising (q ∷ qs) = subst Rising e (keep_rises lex_less (lex_less b) l r) in
    record {
      listed = w.0;
      after = w.1;
      least = λ u n h. go u (cases_cons (subst (λ (k : List (List Start)). Mem u k) e (keep_of (lex_less b) u l n h))) rises;
    }
  where
    go : (u : List Start) → (u ≡ q) ⊎ Mem u qs → Rising (q ∷ qs) → (u ≡ q) ⊎ (lex_less q u ≡ true)
    go u (inl x) rises = inl x
    go u (inr n) rises = inr (rises.0 u n)

kept_none : (b : List Start) (l : List (List Start)) → (keep (lex_less b) l ≡ []) ↔ NoneAfter b l
kept_none b l = (
  (λ e u n. out u n e (lex_less b u) refl),
  (λ f. all_out (keep (lex_less b) l) (λ u n. let w = keep_in (lex_less b) u l n in true≢false (sym w.1 ∙ f u w.0))),
)
  where
    out : (u : List Start) → Mem u l → keep (lex_less b) l ≡ [] → (t : Bool) → lex_less b u ≡ t → lex_less b u ≡ false
    out u n e true h = absurd (not-nil (subst (λ (k : List (List Start)). Mem u k) e (keep_of (lex_less b) u l n h)))
    out u n e false h = h

    all_out : (k : List (List Start)) → ((u : List Start) → Mem u k → ⊥) → k ≡ []
    all_out [] f = refl
    all_out (u ∷ k) f = absurd (f u (here refl))

-- ---- of the list of placements

module _ (t : Table) (p decoded : List ℕ) (dir : Direction) (m : FieldMap) where
  pub placements_rise : Rising (placements_of t p decoded dir m)
  unfolding placements_of
  placements_rise = listed_rising t (view_of p decoded m) dir

  pub after_least : (b q : List Start) (qs : List (List Start)) → keep (lex_less b) (placements_of t p decoded dir m) ≡ q ∷ qs
      → Least b q (placements_of t p decoded dir m)
  after_least b q qs e = kept_least b q qs (placements_of t p decoded dir m) placements_rise e

  pub after_none : (b : List Start) → (keep (lex_less b) (placements_of t p decoded dir m) ≡ []) ↔ NoneAfter b (placements_of t p decoded dir m)
  after_none b = kept_none b (placements_of t p decoded dir m)

  pub next_least : (h : Placement) → and_then (input_check t p decoded dir m) (earlier_check t p decoded dir m h) ≡ Ok tt
      → ((q : List Start) × (next_answer t p decoded dir m h ≡ found_answer q) × Least (starts_of h) q (placements_of t p decoded dir m))
      ⊎ ((next_answer t p decoded dir m h ≡ none_answer) × NoneAfter (starts_of h) (placements_of t p decoded dir m))
  unfolding next_answer
  next_least h check = go (keep (lex_less (starts_of h)) (placements_of t p decoded dir m)) refl
    where
      go : (l : List (List Start)) → keep (lex_less (starts_of h)) (placements_of t p decoded dir m) ≡ l
          → ((q : List Start) × (next_answer t p decoded dir m h ≡ found_answer q) × Least (starts_of h) q (placements_of t p decoded dir m))
          ⊎ ((next_answer t p decoded dir m h ≡ none_answer) × NoneAfter (starts_of h) (placements_of t p decoded dir m))
      go [] e = inr (rw (check, e), (after_none (starts_of h)).0 e)
      go (q ∷ qs) e = inl (q, rw (check, e), after_least (starts_of h) q qs e)
