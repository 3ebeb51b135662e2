-- How many digits a number has: at most one more than its tenth. By induction on how many are enough.
use mathlib.Core.List.{[], ◌∷◌}
use Prim.Native.Nat.{ℕ, zero, suc, ◌+◌, ◌*◌, ◌/◌, ◌%◌, ◌≤◌, ◌<◌, ◌^◌}
use native.Mathlib.Omega.{arith}
use lib.Dec.{ltb}
use lib.ListN.{length, length-append}
use borrow.Author.Tests.{ltb-false}
use Rattle.forms.proofs.Bools.{by_cases}
use Rattle.definitions.specs.Canonical.{digits_of, decimal}

-- the least number of one digit more than d + 1
unfoldable tens : ℕ → ℕ
tens zero = 10
tens (suc d) = tens d * 10

digits_most : (d k n : ℕ) → n < tens d → length (digits_of k n) ≤ suc d
unfolding digits_of tens
digits_most d zero n h = omega arith
digits_most zero (suc k) n h = by_cases (ltb n 10) (λ t. rw t (omega arith)) (λ f. absurd (let z : ⊥ = omega (arith, h, ltb-false n 10 f) in z))
digits_most (suc d) (suc k) n h =
    by_cases (ltb n 10)
    (λ t. rw t (omega arith))
    (λ f. rw f (omega (arith, length-append (digits_of k (n / 10)) ((48 + n % 10) ∷ []), digits_most d k (n / 10) (omega (arith, h)))))

-- a number of 64 bits has at most 20
pub decimal_most : (n : ℕ) → n < 2 ^ 64 → length (decimal n) ≤ 20
unfolding tens
decimal_most n h = digits_most 19 (suc n) n (omega (arith, h))

-- one of 16 bits at most 5
pub word_most : (n : ℕ) → n < 2 ^ 16 → length (decimal n) ≤ 5
unfolding tens
word_most n h = digits_most 4 (suc n) n (omega (arith, h))
