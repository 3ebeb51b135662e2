-- How long answers are: three bytes each.
use mathlib.Core.Path.{◌≡◌, ap, ◌∙◌}
use mathlib.Core.List.{List, [], ◌∷◌}
use Prim.Native.Nat.{ℕ, ◌+◌, ◌*◌, ◌≤◌}
use native.Mathlib.Omega.{arith}
use lib.ListN.{length, take, length-take}
use Rattle.write_bytes.specs.Puts.{max_counted, Puts}
use Rattle.write_bytes.proofs.Whole.{most_of, puts_count}
use Rattle.block_answers.specs.AnswerBytes.{answer_bytes}

answers_length : (l : List ℕ) → length (answer_bytes l) ≡ 3 * length l
unfolding answer_bytes
answers_length [] = omega arith
answers_length (n ∷ l) = omega (arith, answers_length l)

-- put from the start of a buffer
pub answers-within :
    (n : ℕ) (l : List ℕ) → 3 * length l ≤ max_counted → {out after : List ℕ} {k : ℕ} → Puts out 0 (answer_bytes (take n l)) after k → k ≤ 3 * length l
answers-within n l few {out = out} {k = k} p =
    let bytes = answer_bytes (take n l) in
    let most : length bytes ≤ 3 * length l = omega (arith, answers_length (take n l), length-take n l) in
    let counted : k ≡ 0 + length bytes =
    ap (λ (x : List ℕ × ℕ). x.1) p.is ∙ puts_count out 0 bytes (omega arith) ∙ most_of (0 + length bytes) max_counted (omega (arith, most, few)) in
    omega (arith, counted, most)
