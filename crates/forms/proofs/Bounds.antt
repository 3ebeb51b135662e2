-- Lists of bounded parts: which are kept, and what is left of a text at the broken ones. Assumes nothing.
use Rattle.std.specs.Prelude.{if◌then◌else◌}
use mathlib.Core.Path.{◌≡◌, refl, sym, ap, ap₂, ◌∙◌}
use mathlib.Core.Bool.{Bool, true, false, ◌&&◌}
use mathlib.Core.List.{List, [], ◌∷◌, ◌++◌}
use Prim.Native.Nat.{ℕ, ◌+◌}
use native.Mathlib.Omega.{arith}
use lib.ListN.{length, drop}
use lib.Seq.{drop-drop, drop-append_seam}
use Rattle.forms.specs.Bounds.{Bounded, shifted, all_kept}
use Rattle.forms.proofs.Bools.{by_cases, both_left, both_right}

-- ---- what is left of a text at the place of each broken bound

abbrev pub left_at : List ℕ → List Bounded → List (List ℕ)
left_at l [] = []
left_at l (b ∷ bs) = if b.kept then left_at l bs else drop (b.before + b.skip) l ∷ left_at l bs

pub left_append : (l : List ℕ) (bs cs : List Bounded) → left_at l (bs ++ cs) ≡ left_at l bs ++ left_at l cs
left_append l [] cs = refl
left_append l (b ∷ bs) cs =
    by_cases b.kept (λ t. rw t (left_append l bs cs)) (λ t. rw t (ap (λ ls. drop (b.before + b.skip) l ∷ ls) (left_append l bs cs)))

pub left_shifted : (x l : List ℕ) (bs : List Bounded) → left_at (x ++ l) (shifted (length x) bs) ≡ left_at l bs
left_shifted x l [] = refl
left_shifted x l (b ∷ bs) =
    let n : length x + b.before + b.skip ≡ length x + (b.before + b.skip) = omega arith in
    let d : drop (length x + b.before + b.skip) (x ++ l) ≡ drop (b.before + b.skip) l =
    rw n (sym (drop-drop (b.before + b.skip) (length x) (x ++ l)) ∙ ap (drop (b.before + b.skip)) (drop-append_seam x l)) in
    by_cases b.kept (λ t. rw t (left_shifted x l bs)) (λ t. rw t (ap₂ (λ a ls. a ∷ ls) d (left_shifted x l bs)))

-- the parts of one text, and of another after it
pub left_both : (l x m : List ℕ) (bs cs : List Bounded) → l ≡ x ++ m → left_at l (bs ++ shifted (length x) cs) ≡ left_at l bs ++ left_at m cs
left_both l x m bs cs e = left_append l bs (shifted (length x) cs) ∙ ap (λ k. left_at l bs ++ k) (rw e (left_shifted x m cs))

pub left_last : (l x : List ℕ) (n : ℕ) (k : Bool) → (if k then [] else drop n l ∷ []) ≡ left_at l (record { before = 0; part = x; skip = n; kept = k } ∷ [])
left_last l x n k = let z : 0 + n ≡ n = omega arith in rw z refl

-- ---- which are kept

pub kept_append : (bs cs : List Bounded) → all_kept (bs ++ cs) ≡ (all_kept bs && all_kept cs)
kept_append [] cs = refl
kept_append (b ∷ bs) cs = by_cases b.kept (λ t. rw t (kept_append bs cs)) (λ t. rw t)

pub kept_shifted : (n : ℕ) (bs : List Bounded) → all_kept (shifted n bs) ≡ all_kept bs
kept_shifted n [] = refl
kept_shifted n (b ∷ bs) = ap (λ k. b.kept && k) (kept_shifted n bs)

pub kept_both : (n : ℕ) (bs cs : List Bounded) → all_kept (bs ++ shifted n cs) ≡ (all_kept bs && all_kept cs)
kept_both n bs cs = kept_append bs (shifted n cs) ∙ ap (λ k. all_kept bs && k) (kept_shifted n cs)

pub kept_last : (b : Bool) → (b && true) ≡ b
kept_last true = refl
kept_last false = refl

-- all are kept if nothing is left at a broken one
pub left_none : (l : List ℕ) (bs : List Bounded) → left_at l bs ≡ [] → all_kept bs ≡ true
left_none l [] e = refl
left_none l (b ∷ bs) e =
    by_cases b.kept
    (λ t. rw t (left_none l bs (rw t at e)))
    (λ t. let q : drop (b.before + b.skip) l ∷ left_at l bs ≡ [] = rw t at e in absurd (omega (arith, ap length q)))

pub none_left : (l : List ℕ) (bs : List Bounded) → all_kept bs ≡ true → left_at l bs ≡ []
none_left l [] e = refl
none_left l (b ∷ bs) e = rw (both_left b.kept (all_kept bs) e) (none_left l bs (both_right b.kept (all_kept bs) e))

-- the first broken one, with those before it, all kept
pub record FirstBroken (l : List ℕ) (bs : List Bounded) (x : List ℕ) : Type 0 where
  pub kept : List Bounded
  pub first : Bounded
  pub others : List Bounded
  pub are : bs ≡ kept ++ (first ∷ others)
  pub all_kept_lem : all_kept kept ≡ true
  pub not_kept : first.kept ≡ false
  pub left : x ≡ drop (first.before + first.skip) l

pub first_broken : (l : List ℕ) (bs : List Bounded) (x : List ℕ) (xs : List (List ℕ)) → left_at l bs ≡ x ∷ xs → FirstBroken l bs x
first_broken l [] x xs e = absurd (omega (arith, ap length e))
first_broken l (b ∷ bs) x xs e =
    by_cases b.kept
    (λ t.
    let i = first_broken l bs x xs (rw t at e) in
    record {
      kept = b ∷ i.kept;
      first = i.first;
      others = i.others;
      are = ap (λ k. b ∷ k) i.are;
      all_kept_lem = rw t i.all_kept_lem;
      not_kept = i.not_kept;
      left = i.left;
    })
    (λ t.
    let q : drop (b.before + b.skip) l ∷ left_at l bs ≡ x ∷ xs = rw t at e in
    let z : drop (b.before + b.skip) l ≡ x = cc in
    record { kept = []; first = b; others = bs; are = refl; all_kept_lem = refl; not_kept = t; left = sym z })
