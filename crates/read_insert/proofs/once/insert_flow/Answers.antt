-- It is refused where it was given already; else the state is that of the definition.
use Rattle.std.specs.Prelude.{Ok, Err}
use Rattle.std.proofs.lemmas.Result.{err_from_is_err_and}
use mathlib.Core.Path.{sym, ap, ◌∙◌}
use Rattle.read_insert.specs.Inserting.{flow_inserted}
use Rattle.read_insert.proofs.SaidOnce.{new_once, refused_once}
use Rattle.read_insert.proofs.once.insert_flow.Goals as goal

pub returns-in_err-check_again : goal.returns-in_err-check_again
unfolding flow_inserted
returns-in_err-check_again c =
    let p = err_from_is_err_and c.from_residual.result c.from_residual.ensures.1 in
    p.1 ∙ refused_once _ _ p.0 (sym c.check_again.ensures ∙ c.in_err-check_again.was ∙ ap Err (sym p.2))

pub returns : goal.returns
unfolding flow_inserted
returns c = ap Ok c.no_item.ensures ∙ new_once _ _ (sym c.check_again.ensures ∙ c.in_ok-check_again.was)
