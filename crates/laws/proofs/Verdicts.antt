-- A verdict is met exactly if nothing is due and some placement meets the table (`verdict_meets`), not met exactly if nothing is due and none
-- does (`verdict_misses`). The verdict looks whether the list of placements is empty, and the list holds exactly those that meet the table.
use Rattle.std.specs.Prelude.{Result, Ok, Err}
use mathlib.Core.Path.{◌≡◌, refl}
use mathlib.Core.Logic.{◌↔◌}
use mathlib.Core.Bool.{true, false, false≢true}
use mathlib.Core.List.Memᴰ.{head as here}
use mathlib.Core.List.Memᴰ.{not-nil}
use mathlib.Core.List.{List, [], ◌∷◌, Memᴰ as Mem}
use Prim.Native.Nat.{ℕ}
use Rattle.definitions.specs.declared.packets.Start.{Start}
use Rattle.definitions.specs.declared.packets.Direction.{Direction}
use Rattle.definitions.specs.declared.table.Table.{Table}
use Rattle.definitions.specs.declared.packets.FieldMap.{FieldMap}
use Rattle.definitions.specs.declared.answers.Verdict.TheVariants.{Met, NotMet}
use Rattle.definitions.specs.declared.answers.Refusal.{Refusal}
use Rattle.definitions.specs.Fields.{view_of}
use Rattle.definitions.specs.Placements.{MeetsTable}
use Rattle.definitions.specs.Answers.{verdict_by, input_check, placements_of, verdict_answer}
use Rattle.laws.proofs.Listing.{listed_meets}

-- of any list
met_in : (d : Result Unit Refusal) (l : List (List Start)) → verdict_by d l ≡ Ok Met → (d ≡ Ok tt) × ((q : List Start) × Mem q l)
met_in (Ok tt) [] e = let z : false ≡ true = cc in absurd (false≢true z)
met_in (Ok tt) (q ∷ l) e = (refl, (q, here refl))
met_in (Err r) l e = let z : false ≡ true = cc in absurd (false≢true z)

met_of : (d : Result Unit Refusal) (l : List (List Start)) (q : List Start) → d ≡ Ok tt → Mem q l → verdict_by d l ≡ Ok Met
met_of (Ok tt) [] q e n = absurd (not-nil n)
met_of (Ok tt) (u ∷ l) q e n = refl
met_of (Err r) l q e n = cc

missed_in : (d : Result Unit Refusal) (l : List (List Start)) → verdict_by d l ≡ Ok NotMet → (d ≡ Ok tt) × ((q : List Start) → Mem q l → ⊥)
missed_in (Ok tt) [] e = (refl, λ q n. not-nil n)
missed_in (Ok tt) (q ∷ l) e = let z : false ≡ true = cc in absurd (false≢true z)
missed_in (Err r) l e = let z : false ≡ true = cc in absurd (false≢true z)

missed_of : (d : Result Unit Refusal) (l : List (List Start)) → d ≡ Ok tt → ((q : List Start) → Mem q l → ⊥) → verdict_by d l ≡ Ok NotMet
missed_of (Ok tt) [] e f = refl
missed_of (Ok tt) (q ∷ l) e f = absurd (f q (here refl))
missed_of (Err r) l e f = cc

module _ (t : Table) (p decoded : List ℕ) (dir : Direction) (m : FieldMap) where
  pub verdict_meets : (verdict_answer t p decoded dir m ≡ Ok Met)
      ↔ ((input_check t p decoded dir m ≡ Ok tt) × ((q : List Start) × MeetsTable t (view_of p decoded m) dir q))
  unfolding verdict_answer placements_of
  verdict_meets = (
    (λ e. let w = met_in (input_check t p decoded dir m) (placements_of t p decoded dir m) e in
        (w.0, (w.1.0, (listed_meets t (view_of p decoded m) dir w.1.0).0 w.1.1))),
    (λ h. met_of (input_check t p decoded dir m) (placements_of t p decoded dir m) h.1.0 h.0
        ((listed_meets t (view_of p decoded m) dir h.1.0).1 h.1.1)),
  )

  pub verdict_misses : (verdict_answer t p decoded dir m ≡ Ok NotMet)
      ↔ ((input_check t p decoded dir m ≡ Ok tt) × ((q : List Start) → MeetsTable t (view_of p decoded m) dir q → ⊥))
  unfolding verdict_answer placements_of
  verdict_misses = (
    (λ e. let w = missed_in (input_check t p decoded dir m) (placements_of t p decoded dir m) e in
        (w.0, λ q h. w.1 q ((listed_meets t (view_of p decoded m) dir q).1 h))),
    (λ h. missed_of (input_check t p decoded dir m) (placements_of t p decoded dir m) h.0 (λ q n. h.1 q ((listed_meets t (view_of p decoded m) dir q).0 n))),
  )
