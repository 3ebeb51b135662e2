-- The parts from a place on: one turn of a loop that takes the part from each place on that stands after a delimiter, or is the first.
use Rattle.std.specs.Prelude.{if◌then◌else◌}
use mathlib.Core.Path.{◌≡◌, refl, sym, ap, ◌∙◌}
use mathlib.Core.Bool.{true, not}
use mathlib.Core.List.{List, [], ◌∷◌}
use Prim.Native.Nat.{ℕ, suc, ◌+◌, ◌-◌, ◌≤◌, ◌<◌}
use native.Mathlib.Omega.{arith}
use lib.ListN.{length, take, drop, length-drop}
use lib.Seq.{drop-drop}
use lib.Dec.{eqb, ltb, leb}
use borrow.Author.Rules.{part_to_end}
use borrow.Author.Tests.{ltb-true, ltb-false, lt-ltb, le-ltb, le-leb, lt-leb}
use Rattle.forms.specs.Bytes.{run}
use Rattle.forms.proofs.Bools.{by_cases}
use Rattle.definitions.specs.Parts.{find, contains, part_before, part_after, onto, parts}
use Rattle.line_parts.proofs.Delimiters.{find_le, before_length, before_le}

ltb_suc : (a b : ℕ) → ltb (suc a) (suc b) ≡ ltb a b
ltb_suc a b =
    by_cases (ltb a b)
    (λ t. lt-ltb (suc a) (suc b) (omega (arith, ltb-true a b t)) ∙ sym t)
    (λ f. le-ltb (suc a) (suc b) (omega (arith, ltb-false a b f)) ∙ sym f)

abbrev rest : ℕ → List ℕ → List (List ℕ)
rest d l = if contains d l then parts d (part_after d l) else []

pub parts_step : (d : ℕ) (l : List ℕ) → parts d l ≡ part_before d l ∷ rest d l
unfolding parts contains part_before part_after find run
parts_step d [] = refl
parts_step d (b ∷ l) =
    by_cases (eqb b d)
    (λ t. rw (t, lt-ltb 0 (suc (length l)) (omega arith)))
    (λ f. rw (f, ltb_suc (run (λ x. not (eqb x d)) l) (length l)) (ap (onto b) (parts_step d l)))

-- the parts from a place on; past the end there is none
abbrev pub parts_from : ℕ → List ℕ → ℕ → List (List ℕ)
parts_from d s at = if leb at (length s) then parts d (drop at s) else []

pub from_start : (d : ℕ) (s : List ℕ) → parts d s ≡ parts_from d s 0
from_start d s = rw (le-leb 0 (length s) (omega arith))

from_on :
    (d : ℕ) (s : List ℕ) (at k : ℕ) → at ≤ length s → k ≡ length (part_before d (drop at s))
    → parts_from d s at ≡ part_before d (drop at s) ∷ parts_from d s (at + (k + 1))
unfolding contains part_after
from_on d s at k h e =
    let l = drop at s in
    let n : k ≡ find d l = e ∙ before_length d l in
    let size : length l ≡ length s - at = length-drop at s in
    let le : find d l ≤ length l = find_le d l in
    let whole : leb at (length s) ≡ true = le-leb at (length s) h in
    rw whole
    (parts_step d l
    ∙ by_cases (ltb (find d l) (length l))
    (λ t.
    let in' : find d l < length l = ltb-true (find d l) (length l) t in
    let z : at + suc (find d l) ≡ at + (k + 1) = omega (arith, n) in
    rw (t, le-leb (at + (k + 1)) (length s) (omega (arith, n, size, in')))
    (ap (λ (j : List ℕ). part_before d l ∷ parts d j) (drop-drop (suc (find d l)) at s ∙ ap (λ (j : ℕ). drop j s) z)))
    (λ f.
    let out : length l ≤ find d l = ltb-false (find d l) (length l) f in
    rw (f, lt-leb (at + (k + 1)) (length s) (omega (arith, n, size, out, h)))))

-- e is the part from a place on, as a slice has it
module _ (d : ℕ) (s : List ℕ) (at : ℕ) (h : at ≤ length s) (e : List ℕ) (q : e ≡ part_before d (take (length s - at) (drop at s))) where
  this : e ≡ part_before d (drop at s)
  this = q ∙ ap (part_before d) (part_to_end s at)

  pub from_step : parts_from d s at ≡ e ∷ parts_from d s (at + (length e + 1))
  from_step = from_on d s at (length e) h (ap length this) ∙ ap (λ (x : List ℕ). x ∷ parts_from d s (at + (length e + 1))) (sym this)

  pub part_in : at + length e ≤ length s
  part_in = omega (arith, ap length this, before_le d (drop at s), length-drop at s, h)

pub from_end : (d : ℕ) (s : List ℕ) (at : ℕ) → length s < at → parts_from d s at ≡ []
from_end d s at h = rw (lt-leb at (length s) h)
