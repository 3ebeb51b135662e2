-- A WELL-FORMED TABLE WITH ZERO ROOM ADDED has the same items (`items_widened`), the same canonical text (`canonical_widened`), and is well formed
-- (`formed_widened`). Its patterns' bytes are the first of its bytes, so what stands after these enters nothing but the test that it is zero.
use Rattle.std.specs.Prelude.{None}
use mathlib.Core.Path.{◌≡◌, refl, ap, ap₂, ◌∙◌}
use mathlib.Core.Bool.{true}
use mathlib.Core.List.{List, [], ◌∷◌, ◌++◌}
use Prim.Native.Nat.{ℕ, ◌-◌, ◌≤◌}
use native.Mathlib.Omega.{arith}
use lib.ListN.{length, length-append, take, drop, replicate}
use lib.Seq.{take-append-le, drop-append-le}
use lib.Dec.{eqb, leb}
use borrow.Author.Tests.{eq-eqb, le-leb}
use Rattle.forms.specs.Bytes.{text}
use Rattle.definitions.specs.declared.table.Item.{Item}
use Rattle.definitions.specs.declared.table.Address.{Address}
use Rattle.definitions.specs.declared.table.Slot.{Slot}
use Rattle.definitions.specs.declared.table.Table.{Table}
use Rattle.definitions.specs.Limits.{max_byte}
use Rattle.definitions.specs.OptionValues.{OptionValue, Name, Protocol}
use Rattle.definitions.specs.Options.{opening}
use Rattle.definitions.specs.Items.{Kind, unused, addressed, patterned, plain_test, kind_of, patterns_of, slots_of, after_item}
use Rattle.definitions.specs.References.{usable_run}
use Rattle.definitions.specs.WellFormed.{Shaped, is_zero, name_fits, pattern_count, items_fit, bytes_of, bytes_fit, well_formed}
use Rattle.definitions.specs.Placements.{pattern_constraint, constraint_by, constraints, items_of}
use Rattle.definitions.specs.Canonical.{flow_option, item_options, slot_options, canonical_options, options_text, canonical_text}
use Rattle.list_laws.proofs.Padded.{padded_full}
use Rattle.roundtrip.proofs.AllTests.{both, halves, all_append, all_replicate}
use Rattle.roundtrip.proofs.Parts.{formed}
use Rattle.roundtrip.proofs.RebuiltTable.{kind_length, Enough, enough}
use Rattle.limit_laws.specs.LongerTexts.{widened}

-- ---- bytes after those of the patterns

module _ (z : List ℕ) where
  after_longer : (k : Kind) (b : List ℕ) → kind_length k ≤ length b → after_item k (b ++ z) ≡ after_item k b ++ z
  after_longer unused b h = refl
  after_longer (addressed a) b h = refl
  after_longer (patterned p) b h = drop-append-le p.len b z h
  after_longer plain_test b h = refl

  constraint_longer : (k : Kind) (it : Item) (al : List Address) (b : List ℕ) → kind_length k ≤ length b
      → constraint_by k it al (b ++ z) ≡ constraint_by k it al b
  constraint_longer unused it al b h = refl
  constraint_longer (addressed a) it al b h = refl
  constraint_longer (patterned p) it al b h = ap (pattern_constraint p) (take-append-le p.len b z h)
  constraint_longer plain_test it al b h = refl

  options_longer : (k : Kind) (sl : Slot) (b : List ℕ) → kind_length k ≤ length b → item_options k sl (b ++ z) ≡ item_options k sl b
  options_longer unused sl b h = refl
  options_longer (addressed a) sl b h = refl
  options_longer (patterned p) sl b h = rw (take-append-le p.len b z h)
  options_longer plain_test sl b h = refl

  constraints_longer : (sls : List Slot) (b : List ℕ) → Enough sls b → constraints sls (b ++ z) ≡ constraints sls b
  unfolding constraints
  constraints_longer [] b h = refl
  constraints_longer (sl ∷ sls) b h =
      let k = kind_of sl.item in
      let e = enough sl sls b h in
      ap₂ (λ w ws. w ∷ ws) (constraint_longer k sl.item sl.addresses b e.0)
      (ap (constraints sls) (after_longer k b e.0) ∙ constraints_longer sls (after_item k b) e.1)

  slots_longer : (sls : List Slot) (b : List ℕ) → Enough sls b → slot_options sls (b ++ z) ≡ slot_options sls b
  unfolding slot_options
  slots_longer [] b h = refl
  slots_longer (sl ∷ sls) b h =
      let k = kind_of sl.item in
      let e = enough sl sls b h in
      ap₂ (λ es fs. es ++ fs) (options_longer k sl b e.0)
      (ap (slot_options sls) (after_longer k b e.0) ∙ slots_longer sls (after_item k b) e.1)

-- ---- a table

pub shaped_widened : (a b : ℕ) (t : Table) → a ≤ b → Shaped a t → Shaped b (widened b t)
unfolding widened
shaped_widened a b t h s =
    let n = s.roomy in
    record { named = s.named; roomy = padded_full b 0 t.bytes (omega (arith, n, h)); slotted = s.slotted; addressed = s.addressed }

module _ (room : ℕ) (t : Table) (w : well_formed t ≡ true) where
  -- the zeros that are added
  abbrev added : List ℕ
  added = replicate (room - length t.bytes) 0

  enough_bytes : Enough (slots_of t) t.bytes
  enough_bytes =
      let f = formed t w in
      let e = f.used in
      omega (arith, e, f.used_most)

  pub items_widened : items_of (widened room t) ≡ items_of t
  unfolding items_of widened
  items_widened = constraints_longer added (slots_of t) t.bytes enough_bytes

  pub canonical_widened : canonical_text (widened room t) ≡ canonical_text t
  unfolding canonical_text canonical_options widened
  canonical_widened =
      ap
      (λ (es : List OptionValue). opening ++ (options_text (Name (take t.len t.name) ∷ (Protocol t.protocol ∷ (flow_option t.flow ++ es))) ++ text " )"))
      (slots_longer added (slots_of t) t.bytes enough_bytes)

  bytes_widened : bytes_fit (widened room t) ≡ true
  unfolding bytes_fit widened
  bytes_widened =
      let f = formed t w in
      let n = t.used in
      rw (take-append-le n t.bytes added f.used_most, drop-append-le n t.bytes added f.used_most)
      (both (eq-eqb n (bytes_of (patterns_of (slots_of t))) f.used)
      (both (le-leb n (length (t.bytes ++ added)) (omega (arith, length-append t.bytes added, f.used_most)))
      (both f.bytes (all_append is_zero (drop n t.bytes) added f.bytes_rest (all_replicate is_zero (room - length t.bytes) 0 refl)))))

  pub formed_widened : well_formed (widened room t) ≡ true
  unfolding well_formed items_fit widened
  formed_widened =
      let a = halves {a = name_fits t.name t.len} w in
      let b = halves {a = leb t.protocol max_byte} a.1 in
      let c = halves {a = items_fit t} b.1 in
      let d = halves {a = bytes_fit t} {b = eqb (usable_run None (patterns_of (slots_of t))) (pattern_count t)} c.1 in
      both a.0 (both b.0 (both c.0 (both bytes_widened d.1)))
