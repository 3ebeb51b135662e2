-- WHAT IS WRITTEN, NUMBER BY NUMBER (`every_number_lem`): for two accepted books the output is one line, or none, for each number from 1 to 65535 in turn, by the
-- rules that have it. A number is either the first in a list, or stands nowhere in it, since numbers rise.
use Rattle.std.specs.Prelude.{Ok}
use mathlib.Core.Path.{◌≡◌, refl, sym, ap, ap₂, subst, ◌∙◌}
use mathlib.Core.Bool.{false}
use mathlib.Core.List.{List, [], ◌∷◌, ◌++◌}
use Prim.Native.Nat.{ℕ, zero, suc, ◌+◌, ◌≤◌}
use native.Mathlib.Omega.{arith}
use lib.Dec.{eqb}
use borrow.Author.Tests.{eqb-true, eqb-false, eq-eqb, ne_eqb}
use Rattle.forms.proofs.Bools.{by_cases}
use Rattle.definitions.specs.Limits.{Limits, max_word}
use Rattle.definitions.specs.Lists.{keep}
use Rattle.definitions.specs.Books.{judge}
use Rattle.compare_laws.specs.Comparisons.{ReadRule, read_rules, old_line, new_line, both_line, new_lines, rules_output, compare_output}
use Rattle.compare_laws.specs.NumberByNumber.{with_number, line_for, lines_after, every_number}
use Rattle.compare_laws.proofs.Books.{both_accepted}
use Rattle.compare_laws.proofs.Merging.{Below, old_first, new_first, both_first}
use Rattle.compare_laws.proofs.AcceptedRules.{Between, accepted_between}

-- ---- the rules of a number

no_other : (n : ℕ) (r : ReadRule) (rs : List ReadRule) → (r.number ≡ n → ⊥) → with_number n (r ∷ rs) ≡ with_number n rs
unfolding with_number keep
no_other n r rs h = rw (ne_eqb r.number n h)

none_yet : (k n m : ℕ) (rs : List ReadRule) → n ≤ k → Between k m rs → with_number n rs ≡ []
unfolding with_number keep Between
none_yet k n m [] h b = refl
none_yet k n m (r ∷ rs) h b =
    rw (ne_eqb r.number n (λ e. omega (arith, h, b.0, e))) (none_yet r.number n m rs (omega (arith, h, b.0)) b.2)

the_first : (n m : ℕ) (r : ReadRule) (rs : List ReadRule) → r.number ≡ n → Between r.number m rs → with_number n (r ∷ rs) ≡ r ∷ []
unfolding with_number keep
the_first n m r rs e b = rw (eq-eqb r.number n e) (ap (λ (l : List ReadRule). r ∷ l) (none_yet r.number n m rs (omega (arith, e)) b))

-- a rule whose number has passed plays no part
passed_first : (k n : ℕ) (a : ReadRule) (xs ys : List ReadRule) → a.number ≤ k → lines_after k n (a ∷ xs) ys ≡ lines_after k n xs ys
unfolding lines_after
passed_first k zero a xs ys h = refl
passed_first k (suc n) a xs ys h =
    ap₂ (λ (l t : List ℕ). l ++ t)
    (ap (λ (l : List ReadRule). line_for l (with_number (suc k) ys)) (no_other (suc k) a xs (λ e. omega (arith, h, e))))
    (passed_first (suc k) n a xs ys (omega (arith, h)))

passed_second : (k n : ℕ) (xs : List ReadRule) (b : ReadRule) (ys : List ReadRule) → b.number ≤ k → lines_after k n xs (b ∷ ys) ≡ lines_after k n xs ys
unfolding lines_after
passed_second k zero xs b ys h = refl
passed_second k (suc n) xs b ys h =
    ap₂ (λ (l t : List ℕ). l ++ t)
    (ap (λ (l : List ReadRule). line_for (with_number (suc k) xs) l) (no_other (suc k) b ys (λ e. omega (arith, h, e))))
    (passed_second (suc k) n xs b ys (omega (arith, h)))

-- ---- one number more

between_below : (k m : ℕ) (rs : List ReadRule) → Between k m rs → Below k rs
unfolding Between
between_below k m [] b = tt
between_below k m (r ∷ rs) b = b.0

module _ (k n m : ℕ) where
  moved : (r : ReadRule) (rs : List ReadRule) → r.number ≡ suc k → Between r.number m rs → Between (suc k) m rs
  moved r rs e b = subst (λ (j : ℕ). Between j m rs) e b

  step_none : (xs ys : List ReadRule) → Between (suc k) m xs → Between (suc k) m ys → rules_output xs ys ≡ lines_after (suc k) n xs ys
      → rules_output xs ys ≡ lines_after k (suc n) xs ys
  unfolding lines_after
  step_none xs ys h g i = i ∙ sym (rw (none_yet (suc k) (suc k) m xs (omega arith) h, none_yet (suc k) (suc k) m ys (omega arith) g))

  step_old : (a : ReadRule) (xs ys : List ReadRule) → a.number ≡ suc k → Between a.number m xs → Between (suc k) m ys
      → rules_output xs ys ≡ lines_after (suc k) n xs ys → rules_output (a ∷ xs) ys ≡ lines_after k (suc n) (a ∷ xs) ys
  unfolding lines_after
  step_old a xs ys e h g i =
      old_first a xs ys (between_below a.number m ys (subst (λ (j : ℕ). Between j m ys) (sym e) g))
      ∙ ap (λ (l : List ℕ). old_line a ++ l) (i ∙ sym (passed_first (suc k) n a xs ys (omega (arith, e))))
      ∙ sym (rw (the_first (suc k) m a xs e h, none_yet (suc k) (suc k) m ys (omega arith) g))

  step_new : (xs : List ReadRule) (b : ReadRule) (ys : List ReadRule) → b.number ≡ suc k → Between (suc k) m xs → Between b.number m ys
      → rules_output xs ys ≡ lines_after (suc k) n xs ys → rules_output xs (b ∷ ys) ≡ lines_after k (suc n) xs (b ∷ ys)
  unfolding lines_after
  step_new xs b ys e h g i =
      new_first xs b ys (between_below b.number m xs (subst (λ (j : ℕ). Between j m xs) (sym e) h))
      ∙ ap (λ (l : List ℕ). new_line b ++ l) (i ∙ sym (passed_second (suc k) n xs b ys (omega (arith, e))))
      ∙ sym (rw (the_first (suc k) m b ys e g, none_yet (suc k) (suc k) m xs (omega arith) h))

  step_both : (a b : ReadRule) (xs ys : List ReadRule) → a.number ≡ suc k → b.number ≡ suc k → Between a.number m xs → Between b.number m ys
      → rules_output xs ys ≡ lines_after (suc k) n xs ys → rules_output (a ∷ xs) (b ∷ ys) ≡ lines_after k (suc n) (a ∷ xs) (b ∷ ys)
  unfolding lines_after
  step_both a b xs ys e f h g i =
      both_first a b xs ys (e ∙ sym f)
      ∙ ap (λ (l : List ℕ). both_line a b ++ l)
      (i ∙ sym (passed_first (suc k) n a xs (b ∷ ys) (omega (arith, e)) ∙ passed_second (suc k) n xs b ys (omega (arith, f))))
      ∙ sym (rw (the_first (suc k) m a xs e h, the_first (suc k) m b ys f g))

  -- a list that does not begin with the next number has only larger ones
  later : (r : ReadRule) (rs : List ReadRule) → eqb r.number (suc k) ≡ false → Between k m (r ∷ rs) → Between (suc k) m (r ∷ rs)
  unfolding Between
  later r rs f b = (omega (arith, eqb-false r.number (suc k) f, b.0), b.1, b.2)

no_rules : (k : ℕ) → rules_output [] [] ≡ lines_after k zero [] []
unfolding rules_output new_lines lines_after
no_rules k = refl

merged_numbers : (n k m : ℕ) (xs ys : List ReadRule) → m ≡ k + n → Between k m xs → Between k m ys → rules_output xs ys ≡ lines_after k n xs ys
unfolding Between
merged_numbers zero k m [] [] e h g = no_rules k
merged_numbers zero k m (a ∷ xs) ys e h g = absurd (let z : ⊥ = omega (arith, e, h.0, h.1) in z)
merged_numbers zero k m [] (b ∷ ys) e h g = absurd (let z : ⊥ = omega (arith, e, g.0, g.1) in z)
merged_numbers (suc n) k m [] [] e h g = step_none k n m [] [] tt tt (merged_numbers n (suc k) m [] [] (omega (arith, e)) tt tt)
merged_numbers (suc n) k m (a ∷ xs) [] e h g =
    let q : m ≡ suc k + n = omega (arith, e) in
    by_cases (eqb a.number (suc k))
    (λ t.
    let s = eqb-true a.number (suc k) t in
    step_old k n m a xs [] s h.2 tt (merged_numbers n (suc k) m xs [] q (moved k n m a xs s h.2) tt))
    (λ f. let l = later k n m a xs f h in step_none k n m (a ∷ xs) [] l tt (merged_numbers n (suc k) m (a ∷ xs) [] q l tt))
merged_numbers (suc n) k m [] (b ∷ ys) e h g =
    let q : m ≡ suc k + n = omega (arith, e) in
    by_cases (eqb b.number (suc k))
    (λ t.
    let s = eqb-true b.number (suc k) t in
    step_new k n m [] b ys s tt g.2 (merged_numbers n (suc k) m [] ys q tt (moved k n m b ys s g.2)))
    (λ f. let l = later k n m b ys f g in step_none k n m [] (b ∷ ys) tt l (merged_numbers n (suc k) m [] (b ∷ ys) q tt l))
merged_numbers (suc n) k m (a ∷ xs) (b ∷ ys) e h g =
    let q : m ≡ suc k + n = omega (arith, e) in
    by_cases (eqb a.number (suc k))
    (λ t.
    let s = eqb-true a.number (suc k) t in
    let i = moved k n m a xs s h.2 in
    by_cases (eqb b.number (suc k))
    (λ u.
    let r = eqb-true b.number (suc k) u in
    step_both k n m a b xs ys s r h.2 g.2 (merged_numbers n (suc k) m xs ys q i (moved k n m b ys r g.2)))
    (λ v. let l = later k n m b ys v g in step_old k n m a xs (b ∷ ys) s h.2 l (merged_numbers n (suc k) m xs (b ∷ ys) q i l)))
    (λ f.
    let l = later k n m a xs f h in
    by_cases (eqb b.number (suc k))
    (λ u.
    let r = eqb-true b.number (suc k) u in
    step_new k n m (a ∷ xs) b ys r l g.2 (merged_numbers n (suc k) m (a ∷ xs) ys q l (moved k n m b ys r g.2)))
    (λ v.
    let o = later k n m b ys v g in
    step_none k n m (a ∷ xs) (b ∷ ys) l o (merged_numbers n (suc k) m (a ∷ xs) (b ∷ ys) q l o)))

-- for every two accepted books
pub every_number_lem : (lim : Limits) (first second : List ℕ) (n m : ℕ) → judge lim first ≡ Ok n → judge lim second ≡ Ok m
    → compare_output lim first second ≡ every_number (read_rules lim first) (read_rules lim second)
unfolding every_number
every_number_lem lim first second n m e f =
    both_accepted lim first second n e m f
    ∙ merged_numbers max_word 0 max_word (read_rules lim first) (read_rules lim second) (omega arith) (accepted_between lim first n e)
    (accepted_between lim second m f)
