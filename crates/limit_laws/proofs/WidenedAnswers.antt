-- MATCHING: a well-formed table has, widened, the same list of placements, the same verdict, first and next, and the same answers to every list of queries. All
-- these go by its items, its protocol and flow, and by whether it is well formed.
use Rattle.std.specs.Prelude.{None, Result, Ok}
use mathlib.Core.Path.{◌≡◌, refl, ap, ap₂, ◌∙◌}
use mathlib.Core.Bool.{true, not}
use mathlib.Core.List.{List, [], ◌∷◌}
use Prim.Native.Nat.{ℕ}
use lib.Dec.{eqb}
use Rattle.definitions.specs.declared.table.Table.{Table}
use Rattle.definitions.specs.declared.packets.Direction.{Direction}
use Rattle.definitions.specs.declared.packets.FieldMap.{FieldMap}
use Rattle.definitions.specs.declared.packets.Placement.{Placement}
use Rattle.definitions.specs.declared.packets.Start.{Start}
use Rattle.definitions.specs.declared.answers.Refusal.TheVariants as refusal
use Rattle.definitions.specs.declared.answers.Answer.{Answer}
use Rattle.definitions.specs.declared.answers.Query.{Query}
use Rattle.definitions.specs.declared.answers.Query.TheVariants.{First, Next}
use Rattle.definitions.specs.declared.answers.Refusal.{Refusal}
use Rattle.definitions.specs.Lists.{keep}
use Rattle.definitions.specs.Refusals.{refuse_if, and_then}
use Rattle.definitions.specs.WellFormed.{well_formed}
use Rattle.definitions.specs.Fields.{View, view_of}
use Rattle.definitions.specs.Placements.{lex_less, Constraint, only_if, positives, placements, head_holds, listed}
use Rattle.definitions.specs.Answers.{starts_of, head_of, unless, verdict_by, input_check, placements_of, verdict_answer, first_answer, earlier_check, next_answer}
use Rattle.definitions.specs.Queries.{query_answer, answers}
use Rattle.limit_laws.specs.LongerTexts.{widened}
use Rattle.limit_laws.proofs.WidenedTables.{items_widened, formed_widened}

module _ (room : ℕ) (t : Table) (w : well_formed t ≡ true) (p decoded : List ℕ) (dir : Direction) (m : FieldMap) where
  pub placements_widened : placements_of (widened room t) p decoded dir m ≡ placements_of t p decoded dir m
  unfolding placements_of listed widened
  placements_widened = ap (λ (ws : List Constraint). only_if (head_holds t v dir) (placements v ws None)) (items_widened room t w)
    where
      v : View
      v = view_of p decoded m

  check_widened : input_check (widened room t) p decoded dir m ≡ input_check t p decoded dir m
  unfolding input_check
  check_widened = rw (formed_widened room t w, w)

  pub verdict_widened : verdict_answer (widened room t) p decoded dir m ≡ verdict_answer t p decoded dir m
  unfolding verdict_answer
  verdict_widened = ap₂ verdict_by check_widened placements_widened

  pub first_widened : first_answer (widened room t) p decoded dir m ≡ first_answer t p decoded dir m
  unfolding first_answer
  first_widened = ap₂ (λ (c : Result Unit Refusal) (l : List (List Start)). unless c (head_of l)) check_widened placements_widened

  earlier_widened : (held : Placement) → earlier_check (widened room t) p decoded dir m held ≡ earlier_check t p decoded dir m held
  earlier_widened held =
      ap (λ (ws : List Constraint). refuse_if (not (eqb held.count (positives ws))) refusal.EarlierCount (Ok tt)) (items_widened room t w)

  pub next_widened : (held : Placement) → next_answer (widened room t) p decoded dir m held ≡ next_answer t p decoded dir m held
  unfolding next_answer
  next_widened held =
      ap₂ (λ (c : Result Unit Refusal) (l : List (List Start)). unless c (head_of (keep (lex_less (starts_of held)) l)))
      (ap₂ and_then check_widened (earlier_widened held)) placements_widened

  query_widened : (held : Placement) (q : Query) → query_answer (widened room t) p decoded dir m held q ≡ query_answer t p decoded dir m held q
  query_widened held First = first_widened
  query_widened held Next = next_widened held

  pub answers_widened : (held : Placement) (qs : List Query) → answers (widened room t) p decoded dir m held qs ≡ answers t p decoded dir m held qs
  unfolding answers
  answers_widened held [] = refl
  answers_widened held (q ∷ qs) =
      let e = query_widened held q in
      ap₂ (λ (x : Answer) (l : List Answer). x ∷ l) e
      (ap (λ (x : Answer). answers (widened room t) p decoded dir m x.placement qs) e ∙ answers_widened (query_answer t p decoded dir m held q).placement qs)
