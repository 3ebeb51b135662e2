-- Row by row: what is still to come is the answer (`Left`).
use Rattle.std.specs.Prelude.{Some}
use mathlib.Core.Path.{refl, sym, ap, ◌∙◌}
use native.Mathlib.Omega.{arith}
use Rattle.forms.specs.Bytes.{same_word}
use Rattle.definitions.specs.Options.{option_table}
use Rattle.read_names.specs.declared.options.OptionName.TheVariants as option
use Rattle.read_names.specs.Names.{no_capitals, option_order, option_names}
use Rattle.read_names.proofs.Rows.{names_count, names_small, order_count, name_at, option_at, row_found, row_passed, rows_out}
use Rattle.read_names.proofs.option_named.Goals as goal

pub loop-name-init : goal.loop-name-init
unfolding option_order option_names option_table
loop-name-init c = (record { names = refl; options = refl }, refl)

pub same_word-requires : goal.same_word-requires
same_word-requires c =
    let l = c.loop-name in
    let more = c.loop-name-test.true in
    ap no_capitals (name_at l.invariant.0 l.name-index _ more) ∙ names_small l.name-index more

pub returns-then-same_word : goal.returns-then-same_word
returns-then-same_word c =
    let l = c.loop-name in
    let more = c.loop-name-test.true in
    let same = sym (ap (same_word _) (name_at l.invariant.0 l.name-index _ more)) ∙ sym c.same_word.ensures ∙ c.if-same_word.true in
    ap Some (option_at l.invariant.0 l.name-index _ more option.Name)
    ∙ row_found _ _ _ l.name-index option.Name (omega (arith, more, order_count)) (omega (arith, more, names_count)) l.invariant.1 same

pub loop-name-preserved : goal.loop-name-preserved
loop-name-preserved c =
    let l = c.loop-name in
    let more = c.loop-name-test.true in
    let other = sym (ap (same_word _) (name_at l.invariant.0 l.name-index _ more)) ∙ sym c.same_word.ensures ∙ c.if-same_word.false in (
      l.invariant.0,
      row_passed _ _ _ l.name-index option.Name (omega (arith, more, order_count)) (omega (arith, more, names_count)) l.invariant.1 other,
    )

pub returns : goal.returns
returns c =
    let none = c.loop-name-test.false in
    rows_out _ _ _ c.loop-name.name-index (omega (arith, none, order_count)) c.loop-name.invariant.1
