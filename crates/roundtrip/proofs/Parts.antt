-- The parts of a well-formed table, each by its name: the test is a conjunction.
use Rattle.std.specs.Prelude.{None}
use mathlib.Core.Path.{◌≡◌}
use mathlib.Core.Bool.{true}
use Prim.Native.Nat.{◌-◌, ◌≤◌}
use lib.ListN.{length, take, drop}
use lib.Dec.{leb}
use borrow.Author.Tests.{eqb-true, leb-true}
use Rattle.forms.specs.Bytes.{between}
use Rattle.forms.specs.Form.{has}
use Rattle.definitions.specs.declared.table.Table.{Table}
use Rattle.definitions.specs.Limits.{max_name, max_patterns, max_tests, max_items, max_byte}
use Rattle.definitions.specs.Lists.{all?}
use Rattle.definitions.specs.Forms.{quotable}
use Rattle.definitions.specs.Items.{patterns_of, slots_of}
use Rattle.definitions.specs.References.{usable_run}
use Rattle.definitions.specs.WellFormed.{is_zero, name_fits, slot_fits, slot_unused, pattern_count, items_fit, bytes_of, bytes_fit, well_formed}
use Rattle.roundtrip.proofs.AllTests.{halves}
use Rattle.roundtrip.proofs.Fits.{is_byte}

pub record Formed (t : Table) : Type 0 where
  pub name_length_lem : between 1 max_name t.len ≡ true
  pub name_bytes : all? (has quotable) (take t.len t.name) ≡ true
  pub name_rest : all? is_zero (drop t.len t.name) ≡ true
  pub protocol : leb t.protocol max_byte ≡ true
  pub count : t.count ≤ max_items
  pub slots : all? slot_fits (slots_of t) ≡ true
  pub slots_rest : all? slot_unused (drop t.count t.items) ≡ true
  pub patterns : pattern_count t ≤ max_patterns
  pub tests : t.count - pattern_count t ≤ max_tests
  pub used : t.used ≡ bytes_of (patterns_of (slots_of t))
  pub used_most : t.used ≤ length t.bytes
  pub bytes : all? is_byte (take t.used t.bytes) ≡ true
  pub bytes_rest : all? is_zero (drop t.used t.bytes) ≡ true
  pub usable : usable_run None (patterns_of (slots_of t)) ≡ pattern_count t

pub formed : (t : Table) → well_formed t ≡ true → Formed t
unfolding well_formed name_fits items_fit bytes_fit
formed t w =
    let a = halves w in
    let n = halves a.0 in
    let n1 = halves n.1 in
    let b = halves a.1 in
    let c = halves b.1 in
    let i = halves c.0 in
    let i1 = halves i.1 in
    let i2 = halves i1.1 in
    let i3 = halves i2.1 in
    let d = halves c.1 in
    let u = halves d.0 in
    let u1 = halves u.1 in
    let u2 = halves u1.1 in
    record {
      name_length_lem = n.0;
      name_bytes = n1.0;
      name_rest = n1.1;
      protocol = b.0;
      count = leb-true t.count max_items i.0;
      slots = i1.0;
      slots_rest = i2.0;
      patterns = leb-true (pattern_count t) max_patterns i3.0;
      tests = leb-true (t.count - pattern_count t) max_tests i3.1;
      used = eqb-true t.used (bytes_of (patterns_of (slots_of t))) u.0;
      used_most = leb-true t.used (length t.bytes) u1.0;
      bytes = u2.0;
      bytes_rest = u2.1;
      usable = eqb-true (usable_run None (patterns_of (slots_of t))) (pattern_count t) d.1;
    }
