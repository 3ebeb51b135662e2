-- Nothing where nothing differs; else the parts of the line, one after the other.
use Rattle.write_bytes.proofs.Putting.{then, told, none_put}
use Rattle.compare_lines.proofs.Differing.{nothing_changed, something_changed}
use Rattle.compare_lines.proofs.put_changed.Goals as goal

pub returns-then-not-state-action : goal.returns-then-not-state-action
returns-then-not-state-action c =
    let x = c.args in
    told (nothing_changed x.number x.state x.action x.table c.if-not-state-action.true) none_put

pub returns : goal.returns
returns c =
    let x = c.args in
    told (something_changed x.number x.state x.action x.table c.if-not-state-action.false)
    (then c.put_word-a1.ensures
    (then c.put_decimal-a2.ensures (then c.put-a3.ensures (then c.put_differing-a4.ensures c.put.ensures))))
