-- An option that may stand once: refused where it was given already.
use Rattle.std.specs.Prelude.{Ok, Err}
use mathlib.Core.Path.{◌≡◌, refl}
use mathlib.Core.Bool.{Bool, true, false}
use Rattle.definitions.specs.declared.answers.Refusal.{Refusal}
use Rattle.definitions.specs.declared.answers.Refusal.TheVariants as refusal
use Rattle.definitions.specs.Refusals.{refuse_if}
use Rattle.read_state.specs.declared.State.{State}
use Rattle.read_state.specs.Sound.{without_item}
use Rattle.read_insert.specs.Inserting.{inserted_once}

pub new_once : (again : Bool) (st : State) → refuse_if again refusal.Repeated (Ok tt) ≡ Ok tt → Ok (without_item st) ≡ inserted_once again st
new_once true st e = cc
new_once false st e = refl

pub refused_once : (again : Bool) (st : State) (r : Refusal) → refuse_if again refusal.Repeated (Ok tt) ≡ Err r → Err r ≡ inserted_once again st
refused_once true st r e = cc
refused_once false st r e = cc
