-- How one test after the other tells whether two tables are equal: tables with a field that differs are not (`differ`), and those whose first seven fields are
-- equal are so exactly if their slots are (`slots_decide`). A test by the library's `!=` says which of both it is (`test_apart`, `test_equal`).
use mathlib.Core.Path.{◌≡◌}
use mathlib.Core.Bool.{Bool, true, false, not}
use borrow.Author.Tests.{eq-eqb}
use Rattle.definitions.specs.declared.table.Table.{Table}
use Rattle.std.specs.Bool.{Decides}
use Rattle.definitions.specs.Lists.{same_bytes}
use Rattle.forms.proofs.Bools.{by_cases}
use Rattle.forms.proofs.Sound.{never}
use Rattle.table_numbers.specs.ItemNumbers.{flow_number}
use Rattle.table_equality.specs.SameTables.{same_by, same_slot, same_table}
use Rattle.table_equality.proofs.Exactly.{same_table_exactly}

-- t is `==` of x and y
module _ {A : Type 0} (x y : A) (t : Bool) (exact : Decides t (x ≡ y)) where
  pub test_apart : not t ≡ true → x ≡ y → ⊥
  test_apart f e = never (cc (exact.1 e))

  pub test_equal : not t ≡ false → x ≡ y
  test_equal f = by_cases t (λ e. exact.0 e) (λ e. never (cc))

module _ (t u : Table) where
  pub differ : (t ≡ u → ⊥) → false ≡ same_table t u
  differ n = by_cases (same_table t u) (λ e. absurd (n ((same_table_exactly t u).0 e))) (λ e. cc)

  pub slots_decide : t.len ≡ u.len → t.protocol ≡ u.protocol → flow_number t.flow ≡ flow_number u.flow → t.used ≡ u.used → t.count ≡ u.count
      → same_bytes t.name u.name ≡ true → same_bytes t.bytes u.bytes ≡ true → same_table t u ≡ same_by same_slot t.items u.items
  unfolding same_table
  slots_decide len protocol flow used count name bytes = rw (
    eq-eqb t.len u.len len,
    eq-eqb t.protocol u.protocol protocol,
    eq-eqb (flow_number t.flow) (flow_number u.flow) flow,
    eq-eqb t.used u.used used,
    eq-eqb t.count u.count count,
    name,
    bytes,
  )
