-- The parts of a line are those that the library's `split` gives: what a loop over it still has to come, and one turn of it.
use Rattle.std.specs.Prelude.{Some}
use mathlib.Core.Path.{◌≡◌, refl, sym, ap, subst, ◌∙◌}
use mathlib.Core.Bool.{Bool, true, false, cond}
use mathlib.Core.List.{List, [], ◌∷◌, ◌++◌}
use Prim.Native.Nat.{ℕ}
use native.Mathlib.Omega.{arith}
use lib.Dec.{eqb}
use lib.ListN.{length, get_or}
use denote.Ref.{Bor}
use denote.Param.Members.{Mut}
use Rattle.std.specs.declared.slice.Split.{Split}
use Rattle.std.specs.Bool.{MatchBool}
use Rattle.std.specs.Fn.{CalledAt}
use Rattle.std.specs.List.{All, IsFirstMatchOrLen, onto_first, slice_split}
use Rattle.std.specs.Slice.Iter.{split_rest, split_done, split_callee, split_steps}
use Rattle.std.proofs.lemmas.Fn.{always_returns_same}
use Rattle.std.proofs.lemmas.Grind.{common_steps}
use Rattle.std.proofs.lemmas.List.Splits.{slice_split_none, slice_split_at}
use Rattle.forms.proofs.Bools.{by_cases}
use Rattle.definitions.specs.Parts.{onto, parts}
use Rattle.line_parts.proofs.PartsFrom.{parts_step}

onto_some : (d b : ℕ) (l : List ℕ) → onto b (parts d l) ≡ onto_first b (parts d l)
onto_some d b l = rw (parts_step d l)

pub parts_split : (d : ℕ) (l : List ℕ) → parts d l ≡ slice_split (λ b. eqb b d) l
unfolding parts
parts_split d [] = refl
parts_split d (b ∷ l) = by_cases (eqb b d) (λ t. rw (t, parts_split d l)) (λ f. rw (f, onto_some d b l, parts_split d l))

first_part : (p : ℕ → Bool) (xs x rest : List ℕ) (done : Bool) → MatchBool done (xs ≡ x) ((y : ℕ) × (xs ≡ x ++ (y ∷ rest))) → IsFirstMatchOrLen p xs (length x)
    → slice_split p xs ≡ x ∷ cond done [] (slice_split p rest)
first_part p xs x rest true e h = ap (slice_split p) e ∙ slice_split_none p x (λ k d l. subst (λ ys. p (get_or ys k d) ≡ false) e (h.0 k d (omega arith) l))
first_part p xs x rest false e h =
    let front : All (λ z. p z ≡ false) x = λ k d l. let a = h.0 k d (omega arith) l in let b = e.1 in grind (arith, common_steps) in
    let hit : p e.0 ≡ true = let b = e.1 in let a = h.1 (grind (arith, common_steps)) e.0 in grind (arith, common_steps) in
    ap (slice_split p) e.1 ∙ slice_split_at p x e.0 rest front hit

-- what a `split` under way still gives
abbrev pub parts_left : {F : Type 0} → ℕ → Split ℕ F → List (List ℕ)
parts_left d s = cond (split_done s) [] (slice_split (λ b. eqb b d) (split_rest s))

pub left_all : {F : Type 0} (d : ℕ) (s : Split ℕ F) (l : List ℕ) → split_rest s ≡ l → split_done s ≡ false → parts_left d s ≡ parts d l
left_all d s l e f = rw (f, e) (sym (parts_split d l))

pub left_none : {F : Type 0} (d : ℕ) (s : Split ℕ F) → split_done s ≡ true → parts_left d s ≡ []
left_none d s e = rw e

-- the closure tests for the delimiter
pub left_some : {F : Type 0} {g : Mut F (Bor ℕ × Unit {0}) Bool} (d : ℕ) (s t : Split ℕ F) (x : Bor (List ℕ)) → split_steps g s (Some x) t
    → ((b : ℕ) (r : Bool) (q : F) → CalledAt g (split_callee s) b r q → (q ≡ split_callee s) × (r ≡ eqb b d)) → parts_left d s ≡ x.now ∷ parts_left d t
left_some {g = g} d s t x k tests =
    let p = λ (b : ℕ). eqb b d in
    ap (λ b. cond b [] (slice_split p (split_rest s))) k.0
    ∙ first_part p _ x.now _ (split_done t) k.1
    (k.2 p
    (always_returns_same g (λ a r. r ≡ p a.0.now) (split_callee s)
    (λ a r q c. let m = tests a.0.now r q (record { shown = a.0; shows = refl; called = c }) in (m.1, m.0)))).1
