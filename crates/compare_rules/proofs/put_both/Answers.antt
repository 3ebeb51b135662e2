-- The line by what was found to differ.
use Rattle.std.proofs.Common.{◌≡◌, rules}
use mathlib.Core.Bool.{not}
use Rattle.write_bytes.proofs.Putting.{told}
use Rattle.definitions.specs.LoadedBooks.{rule_at}
use Rattle.compare_laws.specs.Comparisons.{read_rule, same_state, same_action}
use Rattle.compare_rules.specs.LoadedRules.{read_at}
use Rattle.compare_rules.proofs.LoadedRules.{both_by}
use Rattle.compare_rules.proofs.put_both.Goals as goal

pub returns : goal.returns
unfolding read_rule rule_at
returns c =
    let x = c.args in
    let state : c.ne-state.result ≡ not (same_state x.a.state x.b.state) = search rules in
    let action : c.ne-action.result ≡ not (same_action x.a.action x.b.action) = search rules in
    told
    (both_by (read_at x.first.now x.a) (read_at x.second.now x.b) state action c.texts_differ-table.ensures)
    c.put_changed.ensures
