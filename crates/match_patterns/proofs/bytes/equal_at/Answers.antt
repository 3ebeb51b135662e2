-- The first byte by itself; the library compares the next bytes, and then the others, with as many at the place.
use mathlib.Core.Path.{◌≡◌, sym, ap, ◌∙◌}
use mathlib.Core.Bool.{Bool, false, ◌&&◌}
use mathlib.Core.List.{List}
use Prim.Native.Nat.{ℕ, ◌+◌, ◌-◌}
use native.Mathlib.Omega.{arith}
use lib.Dec.{eqb}
use lib.ListN.{length, take, drop, length-drop}
use lib.Pointwise.{pointwise}
use lib.Seq.{drop-drop}
use borrow.Author.Rules.{part_to_end}
use borrow.Author.Tests.{eqb-true, eqb-false}
use Rattle.match_patterns.proofs.BytesAtPlace.{differ_alike, none_stand, first_not, others, in_parts}
use Rattle.match_patterns.proofs.bytes.equal_at.Goals as goal

-- the next n bytes are as many at the place
module _ (b f : List ℕ) (at n : ℕ) where
  next_part :
      pointwise eqb (take n (others b f at n)) (take (at + 1 + n - (at + 1)) (drop (at + 1) f))
      ≡ pointwise eqb (take n (others b f at n)) (take n (drop (at + 1) f))
  next_part = ap (λ (j : ℕ). pointwise eqb (take n (others b f at n)) (take j (drop (at + 1) f))) (omega arith)

pub returns-then-is_empty : goal.returns-then-is_empty
returns-then-is_empty c = sym (none_stand false c.args.b.now c.args.f.now c.args.at (eqb-true _ _ (sym c.is_empty.ensures ∙ c.if-is_empty.true)))

pub returns-then-b-f : goal.returns-then-b-f
returns-then-b-f c =
    let a = c.args in
    let some = eqb-false _ _ (sym c.is_empty.ensures ∙ c.if-is_empty.false) in
    sym (first_not false a.b.now a.f.now a.at c.requires some (differ_alike _ _ c.if-b-f.true))

pub returns-then-eq : goal.returns-then-eq
returns-then-eq c =
    let b = c.args.b.now in
    let f = c.args.f.now in
    let at = c.args.at in
    let n = c.min-few.result in
    let r = others b f at n in
    let k = at + 1 in
    let rest = drop n r in
    let some = eqb-false _ _ (sym c.is_empty.ensures ∙ c.if-is_empty.false) in
    c.eq-then-eq.ensures
    ∙ (ap (λ (x : List ℕ). pointwise eqb x (take (k + length r - (k + n)) (drop (k + n) f))) (part_to_end r n)
    ∙ (ap (λ (j : ℕ). pointwise eqb rest (take j (drop (k + n) f))) (let z : k + length r - (k + n) ≡ length rest = omega (arith, length-drop n r) in z)
    ∙ (ap (λ (l : List ℕ). pointwise eqb rest (take (length rest) l)) (sym (drop-drop n k f))
    ∙ (ap (λ (t : Bool). t && pointwise eqb rest (take (length rest) (drop n (drop k f)))) (sym c.if-eq.true ∙ (c.eq.ensures ∙ next_part b f at n))
    ∙ in_parts b f at n c.requires some c.if-b-f.false (omega arith)))))

pub returns-else-eq : goal.returns-else-eq
returns-else-eq c =
    let b = c.args.b.now in
    let f = c.args.f.now in
    let at = c.args.at in
    let n = c.min-few.result in
    let rest = drop n (others b f at n) in
    let some = eqb-false _ _ (sym c.is_empty.ensures ∙ c.if-is_empty.false) in
    c.if-eq.false
    ∙ (ap (λ (t : Bool). t && pointwise eqb rest (take (length rest) (drop n (drop (at + 1) f)))) (sym c.if-eq.false ∙ (c.eq.ensures ∙ next_part b f at n))
    ∙ in_parts b f at n c.requires some c.if-b-f.false (omega arith))
