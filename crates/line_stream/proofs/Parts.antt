-- A line of the input ends at the first LF, or with the input: where that is, and that no LF stands before it.
use mathlib.Core.Path.{◌≡◌, refl, sym, ap, ◌∙◌}
use mathlib.Core.Bool.{true}
use mathlib.Core.List.{List, [], ◌∷◌, ◌++◌}
use Prim.Native.Nat.{ℕ, suc, ◌-◌, ◌≤◌, ◌<◌}
use native.Mathlib.Omega.{arith}
use native.Mathlib.Nat.{not-suc-le-zero}
use lib.Dec.{eqb}
use lib.ListN.{length, get_or, take, drop, length-drop, take-append-drop}
use lib.Seq.{length-take-le, drop-drop, get_or-drop, take-add}
use borrow.Author.Tests.{eqb-true}
use Rattle.forms.specs.Bytes.{run}
use Rattle.forms.proofs.Bools.{by_cases}
use Rattle.definitions.specs.Lists.{all?}
use Rattle.line_stream.specs.Steps.{in_line, lf_from, line_from}
use Rattle.list_laws.proofs.Runs.{run_le}

-- ---- bytes before the first LF

front_ends : (l : List ℕ) → run in_line l < length l → get_or l (run in_line l) 0 ≡ 10
unfolding run
front_ends [] h = absurd (not-suc-le-zero h)
front_ends (b ∷ l) h =
    by_cases (eqb b 10)
    (λ t. rw t (eqb-true b 10 t))
    (λ f. let k : suc (run in_line l) < suc (length l) = rw f at h in rw f (front_ends l (omega (arith, k))))

front_whole : (l : List ℕ) → all? in_line (take (run in_line l) l) ≡ true
unfolding run all?
front_whole [] = refl
front_whole (b ∷ l) = by_cases (eqb b 10) (λ t. rw t) (λ f. rw (f, f) (front_whole l))

-- ---- a line from a place on

module _ (s : List ℕ) (i : ℕ) where
  pub line_within : i ≤ length s → lf_from s i ≤ length s
  line_within h = omega (arith, h, run_le in_line (drop i s), length-drop i s)

  pub line_lf : lf_from s i < length s → get_or s (lf_from s i) 0 ≡ 10
  line_lf h =
      let inside : run in_line (drop i s) < length (drop i s) = omega (arith, h, length-drop i s) in
      sym (get_or-drop i s (run in_line (drop i s)) 0) ∙ front_ends (drop i s) inside

  pub line_inside : all? in_line (line_from s i) ≡ true
  line_inside = front_whole (drop i s)

  pub line_after_lem : take (lf_from s i) s ≡ take i s ++ line_from s i
  line_after_lem = take-add i (run in_line (drop i s)) s

  pub line_length : length (line_from s i) ≡ run in_line (drop i s)
  line_length = length-take-le (run in_line (drop i s)) (drop i s) (run_le in_line (drop i s))

  pub line_rest : drop i s ≡ line_from s i ++ drop (lf_from s i) s
  line_rest =
      sym (take-append-drop (run in_line (drop i s)) (drop i s)) ∙ ap (λ (l : List ℕ). line_from s i ++ l) (drop-drop (run in_line (drop i s)) i s)

  -- as a slice has it
  pub line_slice : {e : ℕ} → e ≡ lf_from s i → take (e - i) (drop i s) ≡ line_from s i
  line_slice {e = e} is = let n : e - i ≡ run in_line (drop i s) = omega (arith, is) in ap (λ (k : ℕ). take k (drop i s)) n
