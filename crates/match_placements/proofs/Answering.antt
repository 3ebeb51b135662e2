-- From refusal 35 or 36, or the outcome of a search, to the answers of "first" and "next": only as many starts of the placement held matter as each
-- placement of the list has.
use Rattle.std.specs.Prelude.{Option, Result, Ok, Err}
use mathlib.Core.Path.{◌≡◌, refl, sym, ap, ◌∙◌}
use mathlib.Core.Bool.{true, false}
use mathlib.Core.List.{List, [], ◌∷◌, Memᴰ as Mem}
use Prim.Native.Nat.{ℕ, ◌≤◌}
use native.Mathlib.Omega.{arith}
use lib.ListN.{length, take}
use borrow.Author.Tests.{eq-eqb, ne_eqb}
use Rattle.definitions.specs.declared.table.Table.{Table}
use Rattle.definitions.specs.declared.packets.Direction.{Direction}
use Rattle.definitions.specs.declared.packets.PacketHeader.{PacketHeader}
use Rattle.definitions.specs.declared.packets.FieldMap.{FieldMap}
use Rattle.definitions.specs.declared.packets.Start.{Start}
use Rattle.definitions.specs.declared.packets.Placement.{Placement}
use Rattle.definitions.specs.declared.answers.Refusal.{Refusal}
use Rattle.definitions.specs.declared.answers.Refusal.TheVariants as refusal
use Rattle.definitions.specs.declared.answers.Answer.{Answer}
use Rattle.definitions.specs.Lists.{keep}
use Rattle.definitions.specs.Fields.{fields_check}
use Rattle.definitions.specs.Placements.{lex_less, items_of, positives}
use Rattle.definitions.specs.Answers.{refused_answer, head_of}
use Rattle.laws.proofs.Rising.{keep_take}
use Rattle.laws.proofs.Listing.{listed_length}
use Rattle.fields.specs.Seen.{seen}
use Rattle.search_state.specs.Outcomes.{outcome_of}
use Rattle.search_state.specs.Choosing.{after_if}
use Rattle.match_answers.specs.Answering.{answer_of}
use Rattle.match_placements.specs.Listing.{list_in, first_in_list, next_in_list}

answer_head : (l : List (List Start)) → answer_of (outcome_of l) ≡ head_of l
answer_head [] = refl
answer_head (q ∷ l) = refl

keep_every : (b : List Start) (l : List (List Start)) → keep (after_if false b) l ≡ l
unfolding keep
keep_every b [] = refl
keep_every b (q ∷ l) = ap (λ (k : List (List Start)). q ∷ k) (keep_every b l)

module _ (t : Table) (f : PacketHeader) (s d : List ℕ) (dir : Direction) (m : FieldMap) where
  -- w is what the test of the fields says, y the answer given
  module _ {w : Result Unit Refusal} (ew : w ≡ fields_check s d m) {y : Answer} where
    module _ {r : Refusal} (k : w ≡ Err r) (g : y ≡ refused_answer r) where
      pub first_refused : y ≡ first_in_list t f s d dir m
      unfolding first_in_list
      first_refused = rw (sym ew ∙ k) g

      pub next_refused : (h : Placement) → y ≡ next_in_list t f s d dir m h
      unfolding next_in_list
      next_refused h = rw (sym ew ∙ k) g

    module _ (k : w ≡ Ok tt) where
      pub first_found : (b : List Start) {x : Option Placement} → x ≡ outcome_of (keep (after_if false b) (list_in t f s d dir m)) → y ≡ answer_of x
          → y ≡ first_in_list t f s d dir m
      unfolding first_in_list
      first_found b e g = g ∙ rw (sym ew ∙ k, e, keep_every b (list_in t f s d dir m)) (answer_head (list_in t f s d dir m))

      -- n is the number of positive patterns
      module _ (h : Placement) {n : ℕ} (en : n ≡ positives (items_of t)) where
        pub next-found : h.count ≡ n → {x : Option Placement} → x ≡ outcome_of (keep (after_if true h.starts) (list_in t f s d dir m)) → y ≡ answer_of x
            → y ≡ next_in_list t f s d dir m h
        unfolding next_in_list
        next-found eh e g =
            let short : (q : List Start) → Mem q (list_in t f s d dir m) → length q ≤ h.count = λ q i. omega (arith, listed_length t (seen f s d m) dir q i) in
            g
            ∙ rw (sym ew ∙ k, eq-eqb h.count (positives (items_of t)) (eh ∙ en), e, keep_take h.count h.starts (list_in t f s d dir m) short)
            (answer_head (keep (lex_less (take h.count h.starts)) (list_in t f s d dir m)))

        pub next-uncounted : (h.count ≡ n → ⊥) → y ≡ refused_answer refusal.EarlierCount → y ≡ next_in_list t f s d dir m h
        unfolding next_in_list
        next-uncounted ne g = g ∙ rw (sym ew ∙ k, ne_eqb h.count (positives (items_of t)) (λ z. ne (z ∙ sym en)))
