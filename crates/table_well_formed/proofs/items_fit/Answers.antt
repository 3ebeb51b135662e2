-- The loop keeps the walk's answer (`Walked`); a slot that fails decides, and so does one after those in use that is not unused.
use mathlib.Core.Path.{◌≡◌, sym, ◌∙◌}
use mathlib.Core.Bool.{and-true, and-false}
use native.Mathlib.Omega.{arith}
use lib.ListN.{drop}
use borrow.Author.Tests.{le-leb, lt-leb}
use Rattle.std.proofs.Common.{rules, tests}
use Rattle.std.proofs.lemmas.Iterator.{YieldsList-from_slice}
use Rattle.std.proofs.lemmas.Iterator.Search.{all_from_yields_List}
use Rattle.definitions.specs.Limits.{max_items}
use Rattle.definitions.specs.Lists.{all?}
use Rattle.definitions.specs.WellFormed.{slot_unused}
use Rattle.table_slots.proofs.Every.{every_is}
use Rattle.table_slots.proofs.Rest.{rest_from}
use Rattle.table_well_formed.specs.ItemsTest.{items_well}
use Rattle.table_well_formed.proofs.ToEnd.{walked_in, walked_on, walked-not, walked_out}
use Rattle.table_well_formed.proofs.items_fit.Goals as goal

pub returns-then-count-gt-ITEMS : goal.returns-then-count-gt-ITEMS
unfolding items_well
returns-then-count-gt-ITEMS c = rw (lt-leb c.args.count max_items c.if-count-gt-ITEMS.true)

pub loop-slot-init : goal.loop-slot-init
loop-slot-init c = rw c.none_passed-w.ensures (walked_in _ _ _)

pub returns-then-not-may_pass : goal.returns-then-not-may_pass
unfolding items_well
returns-then-not-may_pass c =
    let few = le-leb c.args.count max_items c.if-count-gt-ITEMS.false in
    let fails = sym c.may_pass.ensures ∙ c.if-not-may_pass.true in
    rw (few, walked-not _ _ _ _ _ c.loop-slot.invariant _ c.loop-slot-test.true fails)

pub loop-slot-preserved : goal.loop-slot-preserved
loop-slot-preserved c =
    let passes = sym c.may_pass.ensures ∙ c.if-not-may_pass.false in
    rw c.past_item-w.ensures (walked_on _ _ _ _ _ c.loop-slot.invariant _ c.loop-slot-test.true passes)

pub returns-then-all : goal.returns-then-all
unfolding items_well
returns-then-all c =
    let count = c.args.count in
    let items = c.args.items in
    let few = le-leb count max_items c.if-count-gt-ITEMS.false in
    let ends = walked_out _ _ _ _ _ c.loop-slot.invariant c.loop-slot-test.false in
    let rest = c.iter.ensures.rest ∙ rest_from count count max_items items (omega arith) (omega arith) in
    let tested = all_from_yields_List slot_unused _ _ _ c.all.ensures.ran (YieldsList-from_slice _ rest) (λ x b q k. search (rules, tests)) ∙ every_is slot_unused _ in
    let unused : all? slot_unused (drop count items) ≡ c.all.result = sym tested in
    rw (few, unused, c.if-all.true, and-true, ends) c.ends_well.ensures

pub returns-else-all : goal.returns-else-all
unfolding items_well
returns-else-all c =
    let count = c.args.count in
    let items = c.args.items in
    let few = le-leb count max_items c.if-count-gt-ITEMS.false in
    let rest = c.iter.ensures.rest ∙ rest_from count count max_items items (omega arith) (omega arith) in
    let tested = all_from_yields_List slot_unused _ _ _ c.all.ensures.ran (YieldsList-from_slice _ rest) (λ x b q k. search (rules, tests)) ∙ every_is slot_unused _ in
    let unused : all? slot_unused (drop count items) ≡ c.all.result = sym tested in
    rw (few, unused, c.if-all.false, and-false)
