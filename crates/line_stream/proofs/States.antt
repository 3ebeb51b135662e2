-- The state after a part of the input, and after a whole line of it.
use mathlib.Core.Path.{◌≡◌, refl, ap, ◌∙◌}
use mathlib.Core.Bool.{true, false}
use mathlib.Core.List.{List, [], ◌∷◌, ◌++◌}
use Prim.Native.Nat.{ℕ, suc, ◌+◌, ◌<◌}
use native.Mathlib.Omega.{arith}
use native.Mathlib.Numerals.{add-one}
use lib.Dec.{eqb}
use lib.ListN.{length, get_or, take, set, length-set}
use lib.Seq.{take-suc, sets}
use borrow.Author.Tests.{not-true}
use Rattle.forms.proofs.Bools.{both_left, both_right}
use Rattle.definitions.specs.Lists.{all?}
use Rattle.write_bytes.specs.Clipped.{at_most}
use Rattle.write_bytes.proofs.Clipping.{taken_most}
use Rattle.line_stream.specs.Stream.{State, ended, byte_read, after}
use Rattle.line_stream.specs.Steps.{in_line}
use Rattle.line_stream.proofs.Keeping.{kept_one}

-- a line of a number is begun, and so much was written
abbrev pub begun_line : ℕ → List ℕ → List ℕ → State
begun_line n w s = record { number = n; begun = s; written = w }

module _ (answer : List ℕ → List ℕ) where
  -- one part after the other
  pub after_append : (room : ℕ) (st : State) (k l : List ℕ) → after answer room st (k ++ l) ≡ after answer room (after answer room st k) l
  unfolding after
  after_append room st [] l = refl
  after_append room st (b ∷ k) l = after_append room (byte_read answer room st b) k l

  -- a part without LF is kept, as far as the buffer has room
  module _ (n : ℕ) (w : List ℕ) {room : ℕ} where
    pub after_line : (line : List ℕ) (len : ℕ) (part : List ℕ) → length line ≡ room → all? in_line part ≡ true
        → after answer room (begun_line n w (take len line)) part ≡ begun_line n w (take (at_most (len + length part) room) (sets line len part))
    unfolding after all?
    after_line line len [] e t = let k : len + 0 ≡ len = omega arith in ap (begun_line n w) (taken_most len line e (ap (λ (m : ℕ). at_most m room) k))
    after_line line len (b ∷ part) e t =
        let isnt : eqb b 10 ≡ false = not-true (eqb b 10) (both_left (in_line b) (all? in_line part) t) in
        let k : suc len + length part ≡ len + suc (length part) = omega arith in
        rw isnt
        (ap (λ (s : List ℕ). after answer room (begun_line n w s) part) (kept_one line len b e)
        ∙ after_line (set line len b) (suc len) part (length-set line len b ∙ e) (both_right (in_line b) (all? in_line part) t)
        ∙ ap (λ (m : ℕ). begun_line n w (take (at_most m room) (sets (set line len b) (suc len) part))) k)

  -- LF ends the line
  pub after_lf : (room : ℕ) (st : State) (input : List ℕ) (i : ℕ) → i < length input → get_or input i 0 ≡ 10
      → after answer room st (take (i + 1) input) ≡ ended answer (after answer room st (take i input))
  unfolding after
  after_lf room st input i h e =
      ap (λ (k : ℕ). after answer room st (take k input)) (add-one i)
      ∙ ap (after answer room st) (take-suc input i 0 h)
      ∙ after_append room st (take i input) (get_or input i 0 ∷ [])
      ∙ ap (byte_read answer room (after answer room st (take i input))) e
