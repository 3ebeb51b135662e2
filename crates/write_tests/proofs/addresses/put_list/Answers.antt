-- Address by address: what is still to be put is the list from the loop's place on.
use mathlib.Core.Path.{sym, ap, ◌∙◌}
use mathlib.Core.List.{◌++◌}
use Prim.Native.Nat.{◌+◌}
use lib.ListN.{take, drop, get_or}
use Rattle.definitions.specs.declared.table.Address.{Address}
use Rattle.definitions.specs.Canonical.{address_text}
use Rattle.write_bytes.specs.Puts.{puts}
use Rattle.write_bytes.proofs.Putting.{onward}
use Rattle.write_tests.proofs.AddressLists.{list_from, list_is, list_on, list_end}
use Rattle.write_tests.proofs.addresses.put_list.Goals as goal

pub loop-i-init : goal.loop-i-init
loop-i-init c = ap (puts c.args.out.now c.args.at) (list_is (take c.args.n c.args.list))

pub loop-i-preserved : goal.loop-i-preserved
loop-i-preserved c =
    let turn = c.loop-i in
    let addresses = take c.args.n c.args.list in
    let none : Address = record { number = 0; prefix = 0 } in
    let rest = list_from (turn.i + 1) (drop (turn.i + 1) addresses) in
    turn.invariant
    ∙ ap (puts turn.out turn.next) (list_on addresses turn.i none c.loop-i-test.true)
    ∙ onward (address_text (get_or addresses turn.i none) ++ rest) c.put_if-comma.ensures
    ∙ onward rest c.put_address-next.ensures

pub returns : goal.returns
unfolding puts
returns c =
    let turn = c.loop-i in
    record { is = sym (turn.invariant ∙ ap (puts turn.out turn.next) (list_end (take c.args.n c.args.list) turn.i c.loop-i-test.false)) }
