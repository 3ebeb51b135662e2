-- What stands before and after a delimiter: as a slice has it, and how long it is.
use mathlib.Core.Path.{◌≡◌, refl, sym, ap, ◌∙◌}
use mathlib.Core.Bool.{false, not}
use mathlib.Core.List.{List, []}
use Prim.Native.Nat.{ℕ, zero, suc, ◌+◌, ◌≤◌}
use native.Mathlib.Omega.{arith}
use native.Mathlib.Nat.{le_refl}
use lib.ListN.{length, take, drop, length-drop, drop_of_length-le}
use lib.Seq.{length-take-le}
use lib.Dec.{eqb}
use borrow.Author.Tests.{ltb-false}
use Rattle.list_laws.proofs.Runs.{run_le}
use Rattle.definitions.specs.Parts.{find, contains, part_before, part_after, after_parts, part}

module _ (d : ℕ) (l : List ℕ) where
  pub find_le : find d l ≤ length l
  unfolding find
  find_le = run_le (λ b. not (eqb b d)) l

  -- the code's place of the first delimiter, r
  module _ (r : ℕ) (e : r ≡ find d l) where
    pub before_is : take r l ≡ part_before d l
    unfolding part_before
    before_is = ap (λ (n : ℕ). take n l) e

    pub after_is : drop (r + 1) l ≡ part_after d l
    unfolding part_after
    after_is = let z : r + 1 ≡ suc (find d l) = omega (arith, e) in ap (λ (n : ℕ). drop n l) z

    pub after_none : length l ≤ r → drop r l ≡ part_after d l
    unfolding part_after
    after_none h = drop_of_length-le l h ∙ sym (drop_of_length-le l {i = suc (find d l)} (omega (arith, e, h)))

  pub before_length : length (part_before d l) ≡ find d l
  unfolding part_before
  before_length = length-take-le (find d l) l find_le

  pub before_le : length (part_before d l) ≤ length l
  before_le = omega (arith, before_length, find_le)

  pub after_le : length (part_after d l) ≤ length l
  unfolding part_after
  after_le = omega (arith, length-drop (suc (find d l)) l)

  pub after_empty : contains d l ≡ false → part_after d l ≡ []
  unfolding contains part_after
  after_empty f = drop_of_length-le l {i = suc (find d l)} (omega (arith, ltb-false (find d l) (length l) f))

-- ---- by the number of delimiters passed

pub after_parts-le : (d k : ℕ) (l : List ℕ) → length (after_parts d k l) ≤ length l
unfolding after_parts
after_parts-le d zero l = le_refl (length l)
after_parts-le d (suc k) l = omega (arith, after_parts-le d k (part_after d l), after_le d l)

pub part_le : (d k : ℕ) (l : List ℕ) → length (part d k l) ≤ length l
part_le d k l = omega (arith, before_le d (after_parts d k l), after_parts-le d k l)

after_suc : (d k : ℕ) (l : List ℕ) → part_after d (after_parts d k l) ≡ after_parts d (suc k) l
unfolding after_parts
after_suc d zero l = refl
after_suc d (suc k) l = after_suc d k (part_after d l)

-- the code passes one delimiter after the other: what stands after k, r, gives what stands after one more, s, and the part before that one, x
module _ (d k : ℕ) (l : List ℕ) {r : List ℕ} (e : r ≡ after_parts d k l) where
  pub after_next : {s : List ℕ} → s ≡ part_after d r → s ≡ after_parts d (suc k) l
  after_next q = q ∙ ap (part_after d) e ∙ after_suc d k l

  pub part_is : {x : List ℕ} → x ≡ part_before d r → x ≡ part d k l
  part_is q = q ∙ ap (part_before d) e

  pub part_within : {x : List ℕ} → x ≡ part_before d r → length x ≤ length l
  part_within q = omega (arith, ap length (part_is q), part_le d k l)
