-- Bytes that stand at a place of a list, where they fit: byte by byte, those from i on stand i further on; and as the library compares them.
use mathlib.Core.Path.{◌≡◌, refl, sym, ap, ◌∙◌}
use mathlib.Core.Bool.{Bool, true, false, ◌&&◌}
use mathlib.Core.List.{List, [], ◌∷◌}
use Prim.Native.Nat.{ℕ, zero, suc, ◌+◌, ◌-◌, ◌≤◌, ◌<◌}
use native.Mathlib.Omega.{arith}
use native.Mathlib.Nat.{add-zero, add-suc}
use native.Mathlib.Numerals.{add-one}
use lib.ListN.{length, get_or, take, drop, drop_of_length-le, length-drop}
use lib.Dec.{eqb}
use lib.Seq.{drop-cons}
use borrow.Author.Rules.{part_to_end}
use borrow.Author.Tests.{eq-eqb, ne_eqb}
use Rattle.std.specs.Cmp.Lexicographic.{pointwise}
use Rattle.definitions.specs.Windows.{alike, stands_at}

-- each equal, as the library compares them
pub equal_stand : (b l : List ℕ) → length b ≤ length l → pointwise eqb b (take (length b) l) ≡ stands_at false b l
unfolding stands_at alike
equal_stand [] l h = refl
equal_stand (x ∷ b) [] h = absurd (omega arith)
equal_stand (x ∷ b) (y ∷ l) h = ap (λ (t : Bool). eqb x y && t) (equal_stand b l (omega arith))

and_and : (a b c : Bool) → ((a && b) && c) ≡ (a && (b && c))
and_and true b c = refl
and_and false b c = refl

-- the first n of them, and the others
pub parts_stand :
    (n : ℕ) (b l : List ℕ) → n ≤ length b → length b ≤ length l
    → (pointwise eqb (take n b) (take n l) && pointwise eqb (drop n b) (take (length (drop n b)) (drop n l))) ≡ stands_at false b l
unfolding stands_at alike
parts_stand zero b l h k = equal_stand b l k
parts_stand (suc n) [] l h k = absurd (omega arith)
parts_stand (suc n) (x ∷ b) [] h k = absurd (omega arith)
parts_stand (suc n) (x ∷ b) (y ∷ l) h k = and_and (eqb x y) _ _ ∙ ap (λ (t : Bool). eqb x y && t) (parts_stand n b l (omega arith) (omega arith))

-- without no_case alike is equal
pub equal_alike : (x y : ℕ) → x ≡ y → alike false x y ≡ true
unfolding alike
equal_alike x y e = eq-eqb x y e

pub differ_alike : (x y : ℕ) → (x ≡ y → ⊥) → alike false x y ≡ false
unfolding alike
differ_alike x y n = ne_eqb x y n

module _ (nocase : Bool) (b f : List ℕ) (at : ℕ) where
  -- what is left to compare at the i-th byte
  abbrev pub left : ℕ → Bool
  left i = stands_at nocase (drop i b) (drop (at + i) f)

  pub stands_all : stands_at nocase b (drop at f) ≡ left 0
  stands_all = rw add-zero

  pub stands_done : (i : ℕ) → length b ≤ i → left i ≡ true
  unfolding stands_at
  stands_done i h = rw (drop_of_length-le b h)

  pub none_stand : length b ≡ 0 → stands_at nocase b (drop at f) ≡ true
  none_stand h = stands_all ∙ stands_done 0 (omega (arith, h))

  module _ (fits : at + length b ≤ length f) (i : ℕ) (h : i < length b) where
    inside : at + i < length f
    inside = omega arith

    pub stands_more : alike nocase (get_or b i 0) (get_or f (at + i) 0) ≡ true → left i ≡ left (i + 1)
    unfolding stands_at
    stands_more e = rw (add-one i, add-suc at i, drop-cons b i 0 h, drop-cons f (at + i) 0 inside, e)

    pub stands_not : alike nocase (get_or b i 0) (get_or f (at + i) 0) ≡ false → left i ≡ false
    unfolding stands_at
    stands_not e = rw (drop-cons b i 0 h, drop-cons f (at + i) 0 inside, e)

  -- the first byte by itself
  module _ (fits : at + length b ≤ length f) (some : length b ≡ 0 → ⊥) where
    has_first : 0 < length b
    has_first = omega (arith, some)

    first_pair : (t : Bool) → alike nocase (get_or b 0 0) (get_or f at 0) ≡ t → alike nocase (get_or b 0 0) (get_or f (at + 0) 0) ≡ t
    first_pair t e = ap (λ (i : ℕ). alike nocase (get_or b 0 0) (get_or f i 0)) (add-zero at) ∙ e

    pub first_alike : alike nocase (get_or b 0 0) (get_or f at 0) ≡ true → stands_at nocase b (drop at f) ≡ left 1
    first_alike e = stands_all ∙ stands_more fits 0 has_first (first_pair true e)

    pub first_not : alike nocase (get_or b 0 0) (get_or f at 0) ≡ false → stands_at nocase b (drop at f) ≡ false
    first_not e = stands_all ∙ stands_not fits 0 has_first (first_pair false e)

-- the first byte by itself, the next n as the library compares them, and the others
module _ (b f : List ℕ) (at n : ℕ) where
  abbrev pub others : List ℕ
  others = take (length b - 1) (drop 1 b)

  pub in_parts :
      at + length b ≤ length f → (length b ≡ 0 → ⊥) → get_or b 0 0 ≡ get_or f at 0 → n ≤ length b - 1
      → (pointwise eqb (take n others) (take n (drop (at + 1) f)) && pointwise eqb (drop n others) (take (length (drop n others)) (drop n (drop (at + 1) f))))
      ≡ stands_at false b (drop at f)
  in_parts fits some first few =
      let whole : length others ≡ length b - 1 = ap length (part_to_end b 1) ∙ length-drop 1 b in
      parts_stand n others (drop (at + 1) f) (omega (arith, whole)) (omega (arith, whole, length-drop (at + 1) f))
      ∙ (ap (λ (x : List ℕ). stands_at false x (drop (at + 1) f)) (part_to_end b 1)
      ∙ sym (first_alike false b f at fits some (equal_alike _ _ first)))
