-- A number's digits are those of its tenth and one more.
use mathlib.Core.Path.{◌≡◌, ap}
use mathlib.Core.List.{List, [], ◌∷◌, ◌++◌}
use Prim.Native.Nat.{ℕ, zero, suc, ◌+◌, ◌/◌, ◌%◌, ◌≤◌, ◌<◌}
use native.Mathlib.Omega.{arith}
use lib.Dec.{ltb}
use borrow.Author.Tests.{lt-ltb, le-ltb, ltb-false}
use Rattle.forms.proofs.Bools.{by_cases}
use Rattle.definitions.specs.Canonical.{digits_of, decimal}

-- more digits than enough are the same
digits_enough : (k j n : ℕ) → n ≤ k → n ≤ j → digits_of (suc k) n ≡ digits_of (suc j) n
unfolding digits_of
digits_enough zero j n g h = rw (lt-ltb n 10 (omega (arith, g)))
digits_enough (suc k) zero n g h = rw (lt-ltb n 10 (omega (arith, h)))
digits_enough (suc k) (suc j) n g h =
    by_cases (ltb n 10)
    (λ t. rw t)
    (λ t.
    let ten : 10 ≤ n = ltb-false n 10 t in
    rw t (ap (λ (l : List ℕ). l ++ ((48 + n % 10) ∷ [])) (digits_enough k j (n / 10) (omega (arith, g, ten)) (omega (arith, h, ten)))))

pub decimal_one : (n : ℕ) → n < 10 → decimal n ≡ (48 + n % 10) ∷ []
unfolding digits_of
decimal_one n h = rw (lt-ltb n 10 h) (ap (λ (d : ℕ). (48 + d) ∷ []) (omega (arith, h)))

pub decimal_more : (n : ℕ) → 10 ≤ n → decimal n ≡ decimal (n / 10) ++ ((48 + n % 10) ∷ [])
unfolding digits_of
decimal_more zero h = absurd (let z : ⊥ = omega (arith, h) in z)
decimal_more (suc n) h =
    rw (le-ltb (suc n) 10 h)
    (ap (λ (l : List ℕ). l ++ ((48 + suc n % 10) ∷ [])) (digits_enough n (suc n / 10) (suc n / 10) (omega (arith, h)) (omega arith)))
