-- The first numbers of a list changed one by one, the others as they were: the number at a place is still the old one when its turn comes, and setting it makes
-- the front one longer.
use mathlib.Core.Path.{◌≡◌, ap, ◌∙◌}
use mathlib.Core.List.{List, [], ◌∷◌, ◌++◌, map, map-append}
use Prim.Native.Nat.{ℕ, suc, ◌+◌, ◌<◌}
use native.Mathlib.Omega.{arith}
use native.Mathlib.Numerals.{add-one}
use lib.ListN.{length, get_or, take, drop, set, length-map}
use lib.Seq.{take-suc, drop-cons, append_snoc, length-take-le, set_at, get_or_at}

abbrev pub front : (ℕ → ℕ) → ℕ → List ℕ → List ℕ
front f i l = map f (take i l) ++ drop i l

module _ (f : ℕ → ℕ) (i : ℕ) (l : List ℕ) where
  module _ (h : i < length l) where
    before : length (map f (take i l)) ≡ i
    before = length-map (take i l) f ∙ length-take-le i l (omega arith)

    front_here : front f i l ≡ map f (take i l) ++ get_or l i 0 ∷ drop (suc i) l
    front_here = ap (λ (k : List ℕ). map f (take i l) ++ k) (drop-cons l i 0 h)

    one_more : map f (take (suc i) l) ≡ map f (take i l) ++ (f (get_or l i 0) ∷ [])
    one_more = ap (map f) (take-suc l i 0 h) ∙ map-append f (take i l) (get_or l i 0 ∷ [])

    front_longer : front f (i + 1) l ≡ map f (take i l) ++ f (get_or l i 0) ∷ drop (suc i) l
    front_longer =
        rw (add-one, one_more) (append_snoc (map f (take i l)) (f (get_or l i 0)) (drop (suc i) l))

    -- o is the list when the place's turn comes
    module _ (o : List ℕ) (e : o ≡ front f i l) where
      pub front-old : get_or o i 0 ≡ get_or l i 0
      front-old = rw (e, front_here) (get_or_at (map f (take i l)) (get_or l i 0) (drop (suc i) l) 0 i before)

      pub front-set : (v : ℕ) → v ≡ f (get_or o i 0) → set o i v ≡ front f (i + 1) l
      front-set v q =
          let w : v ≡ f (get_or l i 0) = q ∙ ap f front-old in
          rw (w, e, front_here, front_longer) (set_at (map f (take i l)) (get_or l i 0) (drop (suc i) l) (f (get_or l i 0)) i before)
