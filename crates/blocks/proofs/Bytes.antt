-- The whole records of a block have no more bytes than the block: each is within what is left after those before it.
use mathlib.Core.Path.{◌≡◌, ap}
use Prim.Native.Nat.{ℕ, zero, suc, ◌≤◌}
use mathlib.Core.List.{List}
use native.Mathlib.Omega.{arith}
use lib.ListN.{length, take, drop, length-take, length-drop}
use lib.Dec.{leb}
use borrow.Author.Tests.{leb-true}
use Rattle.forms.proofs.Bools.{by_cases}
use Rattle.definitions.specs.declared.books.Answered.{Answered}
use Rattle.definitions.specs.Blocks.{record_length, bytes_up_to, block_answered}

bytes_le : (n : ℕ) (l : List ℕ) → bytes_up_to n l ≤ length l
unfolding bytes_up_to
bytes_le zero l = omega arith
bytes_le (suc n) l =
    by_cases (leb (record_length l) (length l))
    (λ t.
    let rest = drop (record_length l) l in
    rw t (omega (arith, leb-true (record_length l) (length l) t, bytes_le n rest, length-drop (record_length l) l)))
    (λ f. rw f (omega arith))

-- of a block's first bytes
pub answered_within : (n : ℕ) (l : List ℕ) (room : ℕ) {r : Answered} → r ≡ block_answered (take n l) room → r.bytes ≤ n
unfolding block_answered
answered_within n l room e = omega (arith, ap (λ (a : Answered). a.bytes) e, bytes_le room (take n l), length-take n l)
