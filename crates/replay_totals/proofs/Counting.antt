-- THE TOTALS ARE THE COUNTS: those of some outcomes after others are theirs together, and as long as 64 bits hold the sum, they are how many there are of
-- each kind.
use mathlib.Core.Path.{◌≡◌, refl, ap, ◌∙◌}
use mathlib.Core.List.{List, [], ◌∷◌, ◌++◌}
use Prim.Native.Nat.{ℕ, suc, ◌+◌, ◌<◌, ◌^◌}
use native.Mathlib.Omega.{arith}
use lib.ListN.{length}
use Rattle.definitions.specs.Lists.{keep, count}
use Rattle.line_stream.proofs.Output.{next_is}
use Rattle.replay_laws.specs.Replays.{Outcome, pass, hold, bad, is_pass, is_hold, is_bad, total_of}
use Rattle.replay_totals.specs.declared.Totals.{Totals}
use Rattle.replay_totals.specs.Totals.{no_totals, counted, counted_all, total_text}

-- ---- some after others

pub counted_append : (t : Totals) (os ps : List Outcome) → counted_all t (os ++ ps) ≡ counted_all (counted_all t os) ps
unfolding counted_all
counted_append t [] ps = refl
counted_append t (o ∷ os) ps = counted_append (counted t o) os ps

pub counted_one : (t : Totals) (os : List Outcome) (o : Outcome) → counted_all t (os ++ (o ∷ [])) ≡ counted (counted_all t os) o
unfolding counted_all
counted_one t os o = counted_append t os (o ∷ [])

-- ---- how many there are of each kind

abbrev with : ℕ → ℕ → ℕ → List Outcome → Totals
with p h b os = record { passes = p + count is_pass os; holds = h + count is_hold os; bad = b + count is_bad os }

abbrev has : ℕ → ℕ → ℕ → Totals
has p h b = record { passes = p; holds = h; bad = b }

move : (n k : ℕ) → suc n + k ≡ n + suc k
move n k = omega arith

all_counted : (p h b : ℕ) (os : List Outcome) → p + h + b + length os < 2 ^ 64 → counted_all (has p h b) os ≡ with p h b os
unfolding counted_all keep
all_counted p h b [] few =
    let e : p + 0 ≡ p = omega arith in
    let f : h + 0 ≡ h = omega arith in
    let g : b + 0 ≡ b = omega arith in
    rw (e, f, g)
all_counted p h b (pass n ∷ os) few =
    ap (λ (k : ℕ). counted_all (has k h b) os) (next_is p (length os) (omega (arith, few)))
    ∙ all_counted (suc p) h b os (omega (arith, few))
    ∙ ap (λ (k : ℕ). has k (h + count is_hold os) (b + count is_bad os)) (move p (count is_pass os))
all_counted p h b (hold n ∷ os) few =
    ap (λ (k : ℕ). counted_all (has p k b) os) (next_is h (length os) (omega (arith, few)))
    ∙ all_counted p (suc h) b os (omega (arith, few))
    ∙ ap (λ (k : ℕ). has (p + count is_pass os) k (b + count is_bad os)) (move h (count is_hold os))
all_counted p h b (bad ∷ os) few =
    ap (λ (k : ℕ). counted_all (has p h k) os) (next_is b (length os) (omega (arith, few)))
    ∙ all_counted p h (suc b) os (omega (arith, few))
    ∙ ap (λ (k : ℕ). has (p + count is_pass os) (h + count is_hold os) k) (move b (count is_bad os))

-- from none on, the line of totals is that of the counts
pub totals_are : (os : List Outcome) → length os < 2 ^ 64 → total_text (counted_all no_totals os) ≡ total_of os
unfolding total_of
totals_are os few =
    let e : 0 + count is_pass os ≡ count is_pass os = omega arith in
    let f : 0 + count is_hold os ≡ count is_hold os = omega arith in
    let g : 0 + count is_bad os ≡ count is_bad os = omega arith in
    ap total_text (all_counted 0 0 0 os (omega (arith, few))) ∙ rw (e, f, g)
