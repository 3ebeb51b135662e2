-- A pattern is the one matched; any other item is of one of three kinds, at which the definition has the bare pattern.
use mathlib.Core.Path.{◌≡◌, refl, ◌∙◌}
use Rattle.definitions.specs.Tables.{bare}
use Rattle.definitions.specs.Items.{Kind}
use mathlib.Core.Bool.{false}
use Rattle.definitions.proofs.OtherItems.{other_kind}
use Rattle.read_insert_modifiers.specs.Modifying.{pattern_of, pattern_in}
use Rattle.read_insert_modifiers.proofs.pattern_of.Goals as goal

pub returns-in_default : goal.returns-in_default
unfolding pattern_of
returns-in_default c =
    let item = c.args.slot.item in
    c.bare_pattern.ensures ∙ other_kind (λ (k : Kind). bare false 0 ≡ pattern_in k) refl (λ a. refl) refl item c.in_default.not-Pattern

pub returns : goal.returns
unfolding pattern_of
returns c = simp c.in-Pattern.is
