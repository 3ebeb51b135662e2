-- What `check_for` refuses is refused; else the state and the slot are those of the definition.
use Rattle.std.specs.Prelude.{if◌then◌else◌, Result, Ok, Err}
use Rattle.std.proofs.lemmas.Result.{err_from_is_err_and}
use mathlib.Core.Path.{◌≡◌, refl, sym, ap, ◌∙◌}
use mathlib.Core.Bool.{Bool, true, false}
use Rattle.definitions.specs.declared.answers.Refusal.{Refusal}
use Rattle.definitions.specs.declared.answers.Refusal.TheVariants as refusal
use Rattle.definitions.specs.Refusals.{refuse_if}
use Rattle.read_state.specs.declared.Inserted.{Inserted}
use Rattle.read_insert_modifiers.specs.Modifying.{modifier_by}
use Rattle.read_insert_modifiers.proofs.insert_modifier.Goals as goal

module _ (none again : Bool) (n : Inserted) where
  abbrev checked : Result Unit Refusal
  checked = refuse_if none refusal.ModifierWithoutPattern (refuse_if again refusal.Repeated (Ok tt))

  abbrev answered : Result Inserted Refusal
  answered = if none then Err refusal.ModifierWithoutPattern else if again then Err refusal.Repeated else Ok n

at_ok : (none again : Bool) (n : Inserted) → checked none again n ≡ Ok tt → Ok n ≡ answered none again n
at_ok true again n e = cc
at_ok false true n e = cc
at_ok false false n e = refl

at_err : (none again : Bool) (n : Inserted) (r : Refusal) → checked none again n ≡ Err r → Err r ≡ answered none again n
at_err true again n r e = cc
at_err false true n r e = cc
at_err false false n r e = cc

pub returns-in_err-check_for : goal.returns-in_err-check_for
unfolding modifier_by
returns-in_err-check_for c =
    let p = err_from_is_err_and c.from_residual.result c.from_residual.ensures.1 in
    p.1 ∙ at_err _ _ _ p.0 (sym c.check_for.ensures ∙ c.in_err-check_for.was ∙ ap Err (sym p.2))

pub returns : goal.returns
unfolding modifier_by
returns c = at_ok _ _ _ (sym c.check_for.ensures ∙ c.in_ok-check_for.was)
