-- A field that differs decides (`differ`). Once seven fields are equal, the loop keeps whether the slots from here on are the same (`by_on`).
use mathlib.Core.Path.{sym, ap, ◌∙◌}
use native.Mathlib.Omega.{arith}
use Rattle.std.specs.Cmp.Lexicographic.{bytes_decides}
use Rattle.table_numbers.specs.ItemNumbers.{flow_number}
use Rattle.table_equality.specs.SameTables.{same_slot}
use Rattle.table_equality.proofs.Exactly.{bytes_exactly}
use Rattle.table_equality.proofs.SameLists.{by_on, by_halt, by_out}
use Rattle.table_equality.proofs.TableTests.{test_apart, test_equal, differ, slots_decide}
use Rattle.table_equality.proofs.Derived.{flow_exact}
use Rattle.table_equality.proofs.same_table.Goals as goal

pub returns-then-t-u : goal.returns-then-t-u
returns-then-t-u c = differ _ _ (λ e. c.if-t-u.true (λ i. (e i).len))

pub returns-then-t-u-2 : goal.returns-then-t-u-2
returns-then-t-u-2 c = differ _ _ (λ e. c.if-t-u-2.true (λ i. (e i).protocol))

pub returns-then-ne : goal.returns-then-ne
returns-then-ne c = differ _ _ (λ e. test_apart _ _ _ (flow_exact _ _) (sym c.ne.ensures ∙ c.if-ne.true) (λ i. (e i).flow))

pub returns-then-t-u-3 : goal.returns-then-t-u-3
returns-then-t-u-3 c = differ _ _ (λ e. c.if-t-u-3.true (λ i. (e i).used))

pub returns-then-t-u-4 : goal.returns-then-t-u-4
returns-then-t-u-4 c = differ _ _ (λ e. c.if-t-u-4.true (λ i. (e i).count))

pub returns-then-ne-2 : goal.returns-then-ne-2
returns-then-ne-2 c = differ _ _ (λ e. test_apart _ _ _ (bytes_decides _ _) (sym c.ne-2.ensures ∙ c.if-ne-2.true) (λ i. (e i).name))

pub returns-then-ne-3 : goal.returns-then-ne-3
returns-then-ne-3 c = differ _ _ (λ e. test_apart _ _ _ (bytes_decides _ _) (sym c.ne-3.ensures ∙ c.if-ne-3.true) (λ i. (e i).bytes))

pub loop-i-init : goal.loop-i-init
loop-i-init c =
    let flow = test_equal _ _ _ (flow_exact _ _) (sym c.ne.ensures ∙ c.if-ne.false) in
    let name = test_equal _ _ _ (bytes_decides _ _) (sym c.ne-2.ensures ∙ c.if-ne-2.false) in
    let bytes = test_equal _ _ _ (bytes_decides _ _) (sym c.ne-3.ensures ∙ c.if-ne-3.false) in (
      (omega arith, omega arith),
      slots_decide c.args.t c.args.u c.if-t-u.false c.if-t-u-2.false (ap flow_number flow) c.if-t-u-3.false c.if-t-u-4.false
          ((bytes_exactly _ _).1 name) ((bytes_exactly _ _).1 bytes),
    )

pub returns-then-not-same_slot : goal.returns-then-not-same_slot
returns-then-not-same_slot c =
    let turn = c.loop-i in
    let unlike = sym c.same_slot.ensures ∙ c.if-not-same_slot.true in
    sym (turn.invariant.1 ∙ by_halt same_slot _ _ turn.i (omega arith) _ (omega arith) unlike)

pub loop-i-preserved : goal.loop-i-preserved
loop-i-preserved c =
    let turn = c.loop-i in
    let alike = sym c.same_slot.ensures ∙ c.if-not-same_slot.false in
    (turn.invariant.0, turn.invariant.1 ∙ by_on same_slot _ _ turn.i (omega arith) _ (omega arith) alike)

pub returns : goal.returns
returns c =
    let turn = c.loop-i in sym (turn.invariant.1 ∙ by_out same_slot _ _ turn.i (omega arith) (omega arith))
