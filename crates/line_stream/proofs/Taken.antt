-- What is taken, and what the line buffer holds then: a line, up to its LF, at a time.
use mathlib.Core.Path.{◌≡◌, refl, sym, ap, ◌∙◌}
use mathlib.Core.Bool.{true, false}
use mathlib.Core.List.{List, [], ◌∷◌, ◌++◌}
use Prim.Native.Nat.{ℕ, suc, ◌+◌, ◌≤◌, ◌<◌}
use native.Mathlib.Omega.{arith}
use native.Mathlib.Nat.{le_refl, suc-add}
use lib.Dec.{eqb, leb}
use lib.ListN.{length, get_or, drop, set}
use lib.Seq.{drop-cons, drop-length, sets, set_out}
use borrow.Author.Tests.{not-true, eq-eqb, leb-false}
use Rattle.forms.proofs.Bools.{by_cases, both_left, both_right}
use Rattle.definitions.specs.Lists.{all?}
use Rattle.write_bytes.specs.Clipped.{at_most}
use Rattle.line_stream.specs.Stream.{State, longer, ended, after, line_after, answer_fits, taken_of}
use Rattle.line_stream.specs.Steps.{in_line}

-- ---- the line buffer

-- a part without LF
pub line_on : (line : List ℕ) (n : ℕ) (part l : List ℕ) → all? in_line part ≡ true
    → line_after line n (part ++ l) ≡ line_after (sets line n part) (n + length part) l
unfolding line_after all?
line_on line n [] l t = let e : n + 0 ≡ n = omega arith in ap (λ (k : ℕ). line_after line k l) (sym e)
line_on line n (b ∷ part) l t =
    let isnt : eqb b 10 ≡ false = not-true (eqb b 10) (both_left (in_line b) (all? in_line part) t) in
    let e : suc n + length part ≡ n + suc (length part) = omega arith in
    rw isnt
    (line_on (set line n b) (suc n) part l (both_right (in_line b) (all? in_line part) t)
    ∙ ap (λ (k : ℕ). line_after (sets (set line n b) (suc n) part) k l) e)

-- past the end it is the same from wherever on
line_past : (line : List ℕ) (m n : ℕ) (l : List ℕ) → length line ≤ m → length line ≤ n → line_after line m l ≡ line_after line n l
unfolding line_after
line_past line m n [] h g = refl
line_past line m n (b ∷ l) h g =
    by_cases (eqb b 10)
    (λ t. rw t)
    (λ f. rw (f, set_out line m b h, set_out line n b g) (line_past line (suc m) (suc n) l (omega (arith, h)) (omega (arith, g))))

pub line_clipped : (line : List ℕ) (n : ℕ) (l : List ℕ) → line_after line n l ≡ line_after line (at_most n (length line)) l
unfolding at_most
line_clipped line n l =
    by_cases (leb n (length line))
    (λ t. rw t)
    (λ f. rw f (line_past line n (length line) l (omega (arith, leb-false n (length line) f)) (le_refl (length line))))

-- ---- how much is taken

module _ (answer : List ℕ → List ℕ) (room len : ℕ) where
  -- a part without LF
  pub taken_line : (st : State) (part l : List ℕ) → all? in_line part ≡ true
      → taken_of answer room len st (part ++ l) ≡ length part + taken_of answer room len (after answer room st part) l
  unfolding taken_of after all?
  taken_line st [] l t = omega arith
  taken_line st (b ∷ part) l t =
      let isnt : eqb b 10 ≡ false = not-true (eqb b 10) (both_left (in_line b) (all? in_line part) t) in
      let next = longer room st b in
      rw isnt
      (ap suc (taken_line next part l (both_right (in_line b) (all? in_line part) t))
      ∙ sym (suc-add (length part) (taken_of answer room len (after answer room next part) l)))

  module _ (st : State) (input : List ℕ) (i : ℕ) (h : i < length input) (e : get_or input i 0 ≡ 10) where
    -- an LF, where the answer has room
    pub taken_lf : answer_fits answer st len ≡ true
        → taken_of answer room len st (drop i input) ≡ suc (taken_of answer room len (ended answer st) (drop (suc i) input))
    unfolding taken_of
    taken_lf t = rw (drop-cons input i 0 h, eq-eqb (get_or input i 0) 10 e, t)

    -- and where it has none
    pub taken_full : answer_fits answer st len ≡ false → taken_of answer room len st (drop i input) ≡ 0
    unfolding taken_of
    taken_full f = rw (drop-cons input i 0 h, eq-eqb (get_or input i 0) 10 e, f)

  -- nothing is left
  pub taken_end : (st : State) (input : List ℕ) → taken_of answer room len st (drop (length input) input) ≡ 0
  unfolding taken_of
  taken_end st input = rw (drop-length input)
