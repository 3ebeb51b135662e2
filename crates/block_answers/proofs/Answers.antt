-- The answers' bytes, number by number: those of the number at a place, and then those of the numbers after it.
use mathlib.Core.Path.{◌≡◌, sym}
use mathlib.Core.List.{List, [], ◌∷◌}
use Prim.Native.Nat.{ℕ, suc, ◌+◌, ◌/◌, ◌%◌, ◌≤◌, ◌<◌}
use native.Mathlib.Numerals.{add-one}
use lib.ListN.{length, get_or, drop, drop_of_length-le}
use lib.Seq.{drop-cons}
use Rattle.write_bytes.specs.Puts.{puts, Puts}
use Rattle.write_bytes.proofs.Putting.{then, onward}
use Rattle.block_answers.specs.AnswerBytes.{answer_bytes}

module _ (l : List ℕ) (i : ℕ) where
  -- what is still to be put after a number's three bytes
  pub answer-on :
      i < length l → {out o₁ o₂ o₃ : List ℕ} {at a₁ a₂ a₃ : ℕ}
      → Puts out at (get_or l i 0 / 65536 % 256 ∷ []) o₁ a₁ → Puts o₁ a₁ (get_or l i 0 / 256 % 256 ∷ []) o₂ a₂ → Puts o₂ a₂ (get_or l i 0 % 256 ∷ []) o₃ a₃
      → puts out at (answer_bytes (drop i l)) ≡ puts o₃ a₃ (answer_bytes (drop (i + 1) l))
  unfolding answer_bytes
  answer-on h {out = out} {at = at} p q r =
      rw (drop-cons l i 0 h, add-one i) (onward (answer_bytes (drop (suc i) l)) (then (then p q) r))

  -- after the last of them nothing is
  pub answers-all :
      length l ≤ i → {out o : List ℕ} {at a : ℕ} → puts out at (answer_bytes l) ≡ puts o a (answer_bytes (drop i l))
      → Puts out at (answer_bytes l) o a
  unfolding answer_bytes puts
  answers-all h e = record { is = sym (rw (drop_of_length-le l h) at e) }
