-- A byte count is a number of one byte.
use mathlib.Core.Path.{◌≡◌}
use mathlib.Core.Bool.{true, false≢true}
use Prim.Native.Nat.{ℕ, ◌≤◌}
use native.Mathlib.Omega.{arith}
use lib.Dec.{eqb, leb}
use borrow.Author.Tests.{eqb-true, le-leb}
use Rattle.forms.proofs.Bools.{by_cases}
use Rattle.definitions.specs.Limits.{max_byte}
use Rattle.definitions.specs.ByteCounts.{is_byte_count}

pub count_small : (n : ℕ) → is_byte_count n ≡ true → leb n max_byte ≡ true
count_small n h =
    by_cases (eqb n 1)
    (λ e. small (let q = eqb-true n 1 e in omega arith))
    (λ e. by_cases (eqb n 2)
    (λ f. small (let q = eqb-true n 2 f in omega arith))
    (λ f. by_cases (eqb n 4)
    (λ g. small (let q = eqb-true n 4 g in omega arith))
    (λ g. absurd (false≢true (rw (e, f, g) at h)))))
  where
    small : n ≤ max_byte → leb n max_byte ≡ true
    small q = le-leb n max_byte q
