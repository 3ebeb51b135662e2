-- Item by item: what is still to be put are the options of the items from the loop's place on, with their pattern bytes.
use mathlib.Core.Path.{◌≡◌, sym, ap, ◌∙◌}
use mathlib.Core.List.{List, []}
use Prim.Native.Nat.{ℕ, ◌+◌}
use native.Mathlib.Omega.{arith}
use lib.ListN.{length, take, drop, get_or}
use lib.Seq.{length-take-le}
use borrow.Author.Rules.{part_to_end}
use Rattle.definitions.specs.declared.table.Item.TheVariants as item
use Rattle.definitions.specs.declared.table.Slot.{Slot}
use Rattle.definitions.specs.Limits.{max_items}
use Rattle.definitions.specs.Items.{kind_of, after_item}
use Rattle.definitions.specs.Canonical.{item_options, slot_options, options_text}
use Rattle.write_bytes.specs.Puts.{puts}
use Rattle.write_bytes.proofs.Putting.{onward, told}
use Rattle.write_bytes.proofs.Clipping.{at_most_le, taken_most}
use Rattle.write_options.proofs.Items.{items_on, items_end, after_is}
use Rattle.write_options.proofs.put_items.Goals as goal

pub slice_bounds-items-end : goal.slice_bounds-items-end
slice_bounds-items-end c = omega (arith, c.at_most-n.ensures, at_most_le c.args.count max_items)

pub slice_bounds-slot-items-end : goal.slice_bounds-slot-items-end
slice_bounds-slot-items-end c =
    sym (length-take-le c.at_most-n.result c.args.items (omega (arith, c.at_most-n.ensures, at_most_le c.args.count max_items)))

pub loop-slot-preserved : goal.loop-slot-preserved
loop-slot-preserved c =
    let loop = c.loop-slot in
    let items = take c.at_most-n.result c.args.items in
    let bytes = c.args.bytes.now in
    let none : Slot = record { item = item.Unused; addresses = [] } in
    let sl = get_or items loop.slot-index none in
    let after = after_is (kind_of sl.item) bytes loop.from loop.invariant.0 in
    let rest : List ℕ → List ℕ = λ b. options_text (slot_options (drop (loop.slot-index + 1) items) b) in
    let one : List ℕ → List ℕ = λ b. options_text (item_options (kind_of sl.item) sl b) in
    let slot = c.put_slot-next in
    let put = told {l = one (drop loop.from bytes)} (ap one (sym (part_to_end bytes loop.from))) slot.ensures in
    let place = c.place_after-from.ensures in (
      omega (arith, place, after.1),
      loop.invariant.1
          ∙ ap (puts loop.out loop.next) (items_on items loop.slot-index none (drop loop.from bytes) (omega arith))
          ∙ onward (rest (after_item (kind_of sl.item) (drop loop.from bytes))) put
          ∙ ap (λ b. puts slot.new.out slot.result (rest b)) (after.0 ∙ ap (λ k. drop k bytes) (sym place)),
    )

pub returns : goal.returns
unfolding puts
returns c =
    let x = c.args in
    let loop = c.loop-slot in
    let n = c.at_most-n in
    let long : length x.items ≡ max_items = omega arith in
    let end = items_end (take n.result x.items) loop.slot-index (drop loop.from x.bytes.now) (omega arith) in
    told (ap (λ l. options_text (slot_options l x.bytes.now)) (taken_most x.count x.items long n.ensures))
    (record { is = sym (loop.invariant.1 ∙ ap (puts loop.out loop.next) end) })
