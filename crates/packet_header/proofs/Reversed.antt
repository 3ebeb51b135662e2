-- Bytes read from the last on are the reversed bytes.
use mathlib.Core.Path.{◌≡◌, refl}
use mathlib.Core.Bool.{Bool, true, false}
use mathlib.Core.List.{List, [], ◌∷◌, reverse, reverse-cons}
use Prim.Native.Nat.{ℕ, zero, suc, ◌+◌, ◌-◌, ◌≤◌, ◌<◌}
use native.Mathlib.Omega.{arith}
use lib.ListN.{length, get_or, length-reverse, get_or-append, get_or-eq_default}
use lib.Dec.{ltb}
use lib.Seq.{get_or_at}
use borrow.Author.Tests.{ltb-true, ltb-false}
use native.Mathlib.Nat.{zero-add}
use Rattle.std.proofs.lemmas.List.{get_or_read}

pub reverse_read : (d : List ℕ) (i : ℕ) → i < length d → get_or (reverse d) (length d - suc i) 0 ≡ get_or d i 0
reverse_read [] i h = absurd (let z : ⊥ = omega arith in z)
reverse_read (x ∷ xs) zero h =
    rw (reverse-cons x xs) (get_or_at (reverse xs) x [] 0 (suc (length xs) - 1) (omega (arith, length-reverse xs)))
reverse_read (x ∷ xs) (suc j) h =
    let inside : length xs - suc j < length (reverse xs) = omega (arith, length-reverse xs) in
    let same : suc (length xs) - suc (suc j) ≡ length xs - suc j = omega arith in
    rw (reverse-cons x xs, same, get_or-append (reverse xs) (x ∷ []) 0 (length xs - suc j) inside) (reverse_read xs j (omega arith))

pub reverse_bytes : (d : List ℕ) → ((k : ℕ) → get_or d k 0 < 256) → (k : ℕ) → get_or (reverse d) k 0 < 256
reverse_bytes d bytes k = go (ltb k (length d)) refl
  where
    go : (b : Bool) → ltb k (length d) ≡ b → get_or (reverse d) k 0 < 256
    go true e =
        let h = ltb-true k (length d) e in
        let same : length d - suc (length d - suc k) ≡ k = omega arith in
        let read : get_or (reverse d) k 0 ≡ get_or d (length d - suc k) 0 = rw same at (reverse_read d (length d - suc k) (omega arith)) in
        omega (arith, read, bytes (length d - suc k))
    go false e =
        let h : length (reverse d) ≤ k = omega (arith, ltb-false k (length d) e, length-reverse d) in
        omega (arith, get_or-eq_default (reverse d) 0 h)

-- the byte after the k last ones, as numbers are read
pub next_read : (d : List ℕ) (k b : ℕ) → k < length (reverse d) → b ≡ get_or (reverse d) k b → b ≡ get_or (reverse d) (0 + k) 0
next_read d k b inside e = rw zero-add (get_or_read (reverse d) k b inside e 0)
