-- Where a rule's text stands in its line: its place and length lie in the line (`source_within`), and the bytes there are the text (`source_at`).
use mathlib.Core.Path.{◌≡◌, refl, sym, ap, ◌∙◌}
use mathlib.Core.List.{List}
use Prim.Native.Nat.{ℕ, zero, suc, ◌+◌, ◌-◌, ◌≤◌}
use native.Mathlib.Omega.{arith}
use lib.ListN.{length, take, drop, length-drop, drop_of_length-le}
use lib.Dec.{leb}
use lib.Seq.{drop-drop, drop-length}
use borrow.Author.Tests.{leb-true, leb-false}
use Rattle.forms.proofs.Bools.{by_cases}
use Rattle.definitions.specs.Parts.{find, part_before, part_after, after_parts}
use Rattle.definitions.specs.Books.{rule_source}
use Rattle.definitions.specs.LoadedBooks.{source_start}
use Rattle.line_parts.proofs.Delimiters.{before_length, before_le, after_parts-le}

-- an end of some bytes
pub record EndOf (l e : List ℕ) : Type 0 where
  pub from : ℕ
  pub within : from ≤ length l
  pub is : e ≡ drop from l

drop_end : (n : ℕ) (l : List ℕ) → EndOf l (drop n l)
drop_end n l =
    by_cases (leb n (length l))
    (λ t. record { from = n; within = leb-true n (length l) t; is = refl })
    (λ f. let z : length l ≤ n = omega (arith, leb-false n (length l) f) in
    record { from = length l; within = omega arith; is = drop_of_length-le l {i = n} z ∙ sym (drop-length l) })

-- what stands after some delimiters is one
after_end : (d k : ℕ) (l : List ℕ) → EndOf l (after_parts d k l)
unfolding after_parts part_after
after_end d zero l = record { from = 0; within = omega arith; is = refl }
after_end d (suc k) l =
    let a = drop_end (suc (find d l)) l in
    let b = after_end d k (part_after d l) in
    let e : length (part_after d l) ≡ length l - a.from = ap length a.is ∙ length-drop a.from l in
    record {
      from = a.from + b.from;
      within = omega (arith, a.within, b.within, e);
      is = b.is ∙ ap (drop b.from) a.is ∙ drop-drop b.from a.from l;
    }

end_at : (l e : List ℕ) → EndOf l e → drop (length l - length e) l ≡ e
end_at l e h =
    let n : length e ≡ length l - h.from = ap length h.is ∙ length-drop h.from l in
    let z : length l - length e ≡ h.from = omega (arith, n, h.within) in
    ap (λ (k : ℕ). drop k l) z ∙ sym h.is

module _ (l : List ℕ) where
  pub start_within : source_start l ≤ length l
  unfolding source_start
  start_within = omega arith

  pub source_within : source_start l + length (rule_source l) ≤ length l
  unfolding source_start rule_source
  source_within = omega (arith, after_parts-le 9 3 l, before_le 10 (after_parts 9 3 l))

  pub source_at : take (length (rule_source l)) (drop (source_start l) l) ≡ rule_source l
  unfolding source_start rule_source part_before
  source_at =
      rw (end_at l (after_parts 9 3 l) (after_end 9 3 l), before_length 10 (after_parts 9 3 l))
