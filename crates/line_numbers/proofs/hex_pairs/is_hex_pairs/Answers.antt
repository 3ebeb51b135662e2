-- Each answer is a law of the form: `-`, no byte, another byte, or an even count of digits.
use mathlib.Core.Path.{sym, ap, ◌∙◌}
use mathlib.Core.Bool.{not, true≢false}
use borrow.Author.Tests.{eqb-true}
use Rattle.line_numbers.proofs.HexForm.{hex_none, hex_empty, hex_other, hex_even}
use Rattle.line_numbers.proofs.hex_pairs.is_hex_pairs.Goals as goal
use Rattle.line_numbers.proofs.hex_pairs.is_hex_pairs.Goals.{then-not-is_empty, else-not-is_empty}

pub returns-then-is_word : goal.returns-then-is_word
returns-then-is_word c = c.if-is_word.true ∙ hex_none _ (sym c.is_word.ensures ∙ c.if-is_word.true)

pub returns-then-all_hex : goal.returns-then-all_hex
returns-then-all_hex c =
    let word = sym c.is_word.ensures ∙ c.if-is_word.false in
    elim c.if-not-is_empty.branch [
      | then-not-is_empty w ↦ hex_even _ word (sym c.is_empty.ensures ∙ w.if-not-is_empty.true) (sym w.all_hex.ensures ∙ sym w.value-is ∙ c.if-all_hex.true)
      | else-not-is_empty w ↦ absurd (true≢false (sym c.if-all_hex.true ∙ w.value-is ∙ ap not w.if-not-is_empty.false))
    ]

pub returns-else-all_hex : goal.returns-else-all_hex
returns-else-all_hex c =
    let word = sym c.is_word.ensures ∙ c.if-is_word.false in
    c.if-all_hex.false
    ∙ elim c.if-not-is_empty.branch [
      | then-not-is_empty w ↦ hex_other _ word (sym w.all_hex.ensures ∙ sym w.value-is ∙ c.if-all_hex.false)
      | else-not-is_empty w ↦ hex_empty _ (eqb-true _ _ (sym c.is_empty.ensures ∙ w.if-not-is_empty.false))
    ]
