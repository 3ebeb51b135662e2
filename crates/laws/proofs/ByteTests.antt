-- byte_test. It holds exactly if its field is present, every byte that it reads lies in it, and their number stands to the value as the operator says
-- (`byte_test_exactly`); so past the end none holds, `!` as little as the others (`byte_test_past`). Of a field's bytes it depends on those that it reads alone
-- (`byte_test_reads`), and `little` changes nothing with one (`little_alone`). Document 02, T-01.
use Rattle.std.specs.Prelude.{Option}
use mathlib.Core.Path.{◌≡◌, refl, ap}
use mathlib.Core.Logic.{◌↔◌}
use mathlib.Core.Bool.{Bool, true, false, not, ◌&&◌}
use mathlib.Core.List.{List, [], ◌∷◌}
use Prim.Native.Nat.{ℕ, ◌+◌, ◌≤◌, ◌<◌}
use native.Mathlib.Omega.{arith}
use lib.ListN.{length, take, drop}
use lib.Dec.{eqb, leb}
use borrow.Author.Tests.{eqb-true, eqb-false, not-true, eq-eqb, ne_eqb, leb-true, le-leb, ltb-true, lt-ltb}
use Rattle.forms.proofs.Bools.{by_cases, both_left, both_right}
use Rattle.definitions.specs.declared.table.ByteOperator.{ByteOperator}
use Rattle.definitions.specs.declared.table.ByteOperator.TheVariants.{Greater, Less, Equal, Unequal}
use Rattle.definitions.specs.declared.table.ByteTest.{ByteTest}
use Rattle.definitions.specs.declared.packets.Match.{Match}
use Rattle.definitions.specs.ByteCounts.{byte_count}
use Rattle.definitions.specs.Packet.{big_endian}
use Rattle.definitions.specs.Fields.{View}
use Rattle.definitions.specs.Tests.{operator_holds, at_context, at_start, compared_by, big_end_first, number_at, bytes_hold, byte_holds}

-- ---- the operators

-- the number x stands to the value n as the operator says
abbrev pub Stands : ByteOperator → ℕ → ℕ → Type 0
Stands Greater x n = n < x
Stands Less x n = x < n
Stands Equal x n = x ≡ n
Stands Unequal x n = x ≡ n → ⊥

stands : (o : ByteOperator) (x n : ℕ) → (operator_holds (compared_by o) x n ≡ true) ↔ Stands o x n
stands Greater x n = (λ e. ltb-true n x e, λ h. lt-ltb n x h)
stands Less x n = (λ e. ltb-true x n e, λ h. lt-ltb x n h)
stands Equal x n = (λ e. eqb-true x n e, λ h. eq-eqb x n h)
stands Unequal x n = (λ e. eqb-false x n (not-true (eqb x n) e), λ h. ap not (ne_eqb x n h))

-- ---- one test

-- the test t after the last positive pattern l: how many bytes it reads, and their number
module _ (v : View) (t : ByteTest) (l : Option Match) where
  abbrev pub field_present : Bool
  field_present = v.present (at_context t.relative l)

  abbrev pub field_bytes : List ℕ
  field_bytes = v.field (at_context t.relative l)

  abbrev pub read_from : ℕ
  read_from = at_start t.relative l + t.offset

  abbrev pub number_read : ℕ
  number_read = number_at t.little (byte_count t.width) field_bytes read_from

  -- BYTE_TEST HOLDS EXACTLY IF ITS FIELD IS PRESENT, ITS BYTES LIE IN IT, AND THEIR NUMBER STANDS TO THE VALUE AS THE OPERATOR SAYS
  pub byte_test_exactly : (byte_holds v t l ≡ true)
      ↔ ((field_present ≡ true) × (read_from + byte_count t.width ≤ length field_bytes) × Stands t.operator number_read t.value)
  unfolding byte_holds bytes_hold
  byte_test_exactly =
      let inside = leb (read_from + byte_count t.width) (length field_bytes) in
      let compared = operator_holds (compared_by t.operator) number_read t.value in (
        (λ e.
            let b = both_right field_present (inside && compared) e in (
              both_left field_present (inside && compared) e,
              leb-true (read_from + byte_count t.width) (length field_bytes) (both_left inside compared b),
              (stands t.operator number_read t.value).0 (both_right inside compared b),
            )),
        λ h. rw (h.0, le-leb (read_from + byte_count t.width) (length field_bytes) h.1) ((stands t.operator number_read t.value).1 h.2),
      )

  -- one byte past the end, and it doesn't hold, whatever the operator
  pub byte_test_past : length field_bytes < read_from + byte_count t.width → byte_holds v t l ≡ false
  byte_test_past h = by_cases (byte_holds v t l) (λ e. absurd (let i = (byte_test_exactly.0 e).1 in let z : ⊥ = omega arith in z)) (λ e. e)

-- OF A FIELD'S BYTES IT DEPENDS ON THOSE THAT IT READS ALONE, and on how many there are
pub byte_test_reads : (t : ByteTest) (at : ℕ) (d d' : List ℕ) → length d ≡ length d'
    → take (byte_count t.width) (drop at d) ≡ take (byte_count t.width) (drop at d') → bytes_hold t at d ≡ bytes_hold t at d'
unfolding bytes_hold number_at
byte_test_reads t at d d' n e = rw (n, e)

-- of one byte either end is the same
pub little_alone : (d : List ℕ) (at : ℕ) → number_at true 1 d at ≡ number_at false 1 d at
unfolding number_at
little_alone d at = go (drop at d)
  where
    go : (l : List ℕ) → big_endian 1 (big_end_first true (take 1 l)) 0 ≡ big_endian 1 (big_end_first false (take 1 l)) 0
    go [] = refl
    go (b ∷ l) = refl
