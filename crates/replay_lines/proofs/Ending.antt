-- AFTER THE LAST BYTE: the answer to a line that lacks its LF, if there is one, and the totals with it.
use mathlib.Core.Path.{◌≡◌, refl, sym, ap, ◌∙◌}
use mathlib.Core.Bool.{true, false}
use mathlib.Core.List.{List, [], ◌∷◌, map}
use Prim.Native.Nat.{ℕ}
use native.Mathlib.Nat.{not-suc-le-zero}
use lib.Dec.{ltb}
use lib.ListN.{length, take}
use borrow.Author.Tests.{ltb-true, ltb-false}
use Rattle.forms.specs.Bytes.{text}
use Rattle.definitions.specs.Limits.{document_limits}
use Rattle.definitions.specs.Lists.{all?}
use Rattle.definitions.specs.Books.{Rule}
use Rattle.write_bytes.specs.Puts.{Puts}
use Rattle.write_bytes.proofs.Putting.{then, told}
use Rattle.line_stream.specs.declared.Begun.{Begun}
use Rattle.line_stream.specs.declared.Feeding.{Feeding}
use Rattle.line_stream.specs.Steps.{Lasts}
use Rattle.line_stream.specs.Ended.{last_lines}
use Rattle.line_stream.proofs.Finish.{none_waits, one_waits}
use Rattle.replay_laws.specs.Replays.{Outcome, outcome_text, outcome, replay_answer}
use Rattle.replay_totals.specs.declared.Totals.{Totals}
use Rattle.replay_totals.specs.OutcomeNumbers.{line_number, outcome_of}
use Rattle.replay_totals.specs.Totals.{counted, counted_all, total_text}
use Rattle.replay_totals.proofs.Outcomes.{is_narrow, says_line}
use Rattle.replay_lines.specs.Feeding.{last_output}
use Rattle.replay_lines.proofs.Replaying.{told_answer}

none_last : (l : List ℕ) → ltb 0 (length l) ≡ false → last_lines l ≡ []
none_last [] f = refl
none_last (b ∷ l) f = absurd (not-suc-le-zero (ltb-false 0 (length (b ∷ l)) f))

one_last : (l : List ℕ) → ltb 0 (length l) ≡ true → last_lines l ≡ l ∷ []
one_last [] t = absurd (not-suc-le-zero (ltb-true 0 0 t))
one_last (b ∷ l) t = refl

module _ (rs : List Rule) {line out o : List ℕ} {b : Begun} {t : Feeding} (k : Lasts line out o b t) (sum : Totals) where
  abbrev answer : List ℕ → List ℕ
  answer = replay_answer document_limits rs

  abbrev kept : List ℕ
  kept = take b.len line

  waiting : t.waits ≡ ltb 0 (length kept)
  waiting = ap (λ (x : Feeding). x.waits) k.is

  -- no line
  pub ends_none : {o' : List ℕ} {r : ℕ} → t.waits ≡ false → Puts o t.at (total_text sum) o' r
      → Puts out 0 (last_output document_limits rs b.number kept sum) o' r
  unfolding last_output counted_all
  ends_none f p =
      then (none_waits answer k f)
      (told (ap (λ (ls : List (List ℕ)). total_text (counted_all sum (map (outcome document_limits rs) ls))) (none_last kept (sym waiting ∙ f))) p)

  -- a line, by its number
  pub ends_one : all? is_narrow rs ≡ true → {n j i r : ℕ} {s o' o'' o''' : List ℕ} {sum' : Totals} → t.waits ≡ true → s ≡ kept
      → n ≡ line_number document_limits rs s → Puts o t.at (outcome_text (outcome_of n)) o' j → Puts o' j (text "\n") o'' i
      → sum' ≡ counted sum (outcome_of n) → Puts o'' i (total_text sum') o''' r
      → Puts out 0 (last_output document_limits rs b.number kept sum) o''' r
  unfolding last_output counted_all
  ends_one narrow {n = n} {s = s} w e is p q c u =
      let said : outcome_of n ≡ outcome document_limits rs s = ap outcome_of is ∙ says_line document_limits rs narrow s in
      then
      (one_waits answer k w e (told_answer rs narrow n s said p) q)
      (told
      (ap (λ (ls : List (List ℕ)). total_text (counted_all sum (map (outcome document_limits rs) ls))) (one_last kept (sym waiting ∙ w))
      ∙ ap (λ (x : List ℕ). total_text (counted sum (outcome document_limits rs x))) (sym e)
      ∙ ap (λ (x : Outcome). total_text (counted sum x)) (sym said)
      ∙ ap total_text (sym c))
      u)
