-- Numbers stored one after the other.
use mathlib.Core.Path.{◌≡◌, sym, ap, ◌∙◌}
use mathlib.Core.List.{List, ◌∷◌, ◌++◌, map}
use Prim.Native.Nat.{ℕ, suc, ◌+◌, ◌≤◌, ◌<◌}
use native.Mathlib.Numerals.{add-one}
use native.Mathlib.Omega.{arith}
use lib.ListN.{length, take, drop, get_or, set, length-map, get_or-map}
use lib.Seq.{drop-cons, sets, sets-eq}
use Rattle.definitions.specs.declared.packets.Start.{Start}
use Rattle.definitions.specs.Starts.{start_at, start_number}

-- ---- a list, number by number: what is still to be stored

stores_one : (out : List ℕ) (at : ℕ) (vs : List ℕ) (j : ℕ) → j < length vs
    → sets out (at + j) (drop j vs) ≡ sets (set out (at + j) (get_or vs j 0)) (at + (j + 1)) (drop (j + 1) vs)
stores_one out at vs j h =
    let e : at + (j + 1) ≡ suc (at + j) = omega arith in
    rw (e, add-one j, drop-cons vs j 0 h)

-- a list of starts, by their numbers
pub stores_start : (out : List ℕ) (at : ℕ) (ss : List Start) (j : ℕ) (n : ℕ) → j < length ss → n ≡ start_number (get_or ss j (start_at 0))
    → sets out (at + j) (drop j (map start_number ss)) ≡ sets (set out (at + j) n) (at + (j + 1)) (drop (j + 1) (map start_number ss))
stores_start out at ss j n h e =
    stores_one out at (map start_number ss) j (omega (arith, h, length-map ss start_number))
    ∙ ap (λ (k : ℕ). sets (set out (at + j) k) (at + (j + 1)) (drop (j + 1) (map start_number ss))) (get_or-map start_number ss j (start_at 0) ∙ sym e)

-- ---- three numbers and a list after them

pub three_and_more : (out : List ℕ) (at x y z n : ℕ) (vs : List ℕ) → 3 + length vs ≡ n → at + n ≤ length out
    → sets (set (set (set out at x) (at + 1) y) (at + 2) z) (at + 3) vs ≡ take at out ++ (x ∷ y ∷ z ∷ vs) ++ drop (at + n) out
three_and_more out at x y z n vs e h =
    let e1 : at + 1 ≡ suc at = omega arith in
    let e2 : at + 2 ≡ suc (suc at) = omega arith in
    let e3 : at + 3 ≡ suc (suc (suc at)) = omega arith in
    let k : at + length (x ∷ y ∷ z ∷ vs) ≤ length out = omega arith in
    let f : length (x ∷ y ∷ z ∷ vs) ≡ n = omega arith in
    rw (e1, e2, e3) (sets-eq (x ∷ y ∷ z ∷ vs) out at k ∙ ap (λ (i : ℕ). take at out ++ (x ∷ y ∷ z ∷ vs) ++ drop (at + i) out) f)
