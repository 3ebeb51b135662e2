use Rattle.read_addresses.proofs.Commas.{gathered_one, gathered_out, gathered-less, gathered-on}
use Rattle.read_addresses.proofs.addresses.then_list.Goals as goal

pub loop-comma-init : goal.loop-comma-init
loop-comma-init c = gathered_one _ c.requires c.then_address-first.ensures

pub returns : goal.returns
returns c = gathered_out _ c.loop-comma.invariant c.next_is.ensures c.requires c.then_address-first.ensures c.one_kept-list.ensures c.loop-comma-test.false

pub loop-comma-smaller : goal.loop-comma-smaller
loop-comma-smaller c =
    let u = c.loop-comma.invariant in
    gathered-less _ u c.next_is.ensures c.loop-comma-test.true c.then_literal-comma.ensures c.then_address-next.ensures

pub loop-comma-preserved : goal.loop-comma-preserved
loop-comma-preserved c =
    let u = c.loop-comma.invariant in
    gathered-on _ u c.next_is.ensures c.loop-comma-test.true c.then_literal-comma.ensures c.then_address-next.ensures c.keep.ensures
