-- The table of a text's options is well formed if its room holds their pattern bytes: the options fit, are few, and name and protocol are among them.
-- A text has no more pattern bytes than bytes.
use Rattle.std.specs.Prelude.{None}
use mathlib.Core.Path.{◌≡◌, refl, sym, ◌∙◌}
use mathlib.Core.Bool.{Bool, true, false, ◌&&◌}
use mathlib.Core.List.{List, [], ◌∷◌, ◌++◌}
use Prim.Native.Nat.{ℕ, ◌+◌, ◌-◌, ◌≤◌}
use native.Mathlib.Omega.{arith}
use lib.ListN.{length, length-append, take, replicate}
use lib.Seq.{take-append_seam, drop-append_seam}
use lib.Dec.{eqb, leb}
use borrow.Author.Tests.{le-leb, eq-eqb, leb-true}
use Rattle.forms.specs.Bytes.{between}
use Rattle.forms.specs.Form.{has}
use Rattle.forms.proofs.Bools.{both_left, both_right}
use Rattle.forms.proofs.Sound.{never}
use Rattle.definitions.specs.Limits.{max_name, max_items, max_byte, max_tests, max_patterns}
use Rattle.definitions.specs.Lists.{all?, keep, count, padded}
use Rattle.definitions.specs.OptionValues.{OptionValue, Name, Protocol, Flow, Test, Pattern, Modified}
use Rattle.definitions.specs.Forms.{quotable}
use Rattle.definitions.specs.Tables.{name_in, protocol_in, no_slot, slots_in, bytes_in, table_of}
use Rattle.definitions.specs.Items.{patterns_of}
use Rattle.definitions.specs.References.{usable_run, usable_in}
use Rattle.definitions.specs.Occurrences.{same_kind, is_pattern, missing}
use Rattle.definitions.specs.Grammar.{OptionsBy, OptionsText, close, space, Occurrences}
use Rattle.definitions.specs.WellFormed.{is_zero, name_fits, slot_unused, items_fit, bytes_of, bytes_fit, well_formed}
use Rattle.syntax.proofs.UsablePatterns.{test_only, patterns_counted}
use Rattle.roundtrip.proofs.AllTests.{both, all_none, all_more, all_head, all_tail, all_replicate}
use Rattle.laws.proofs.Checks.{neither}
use Rattle.roundtrip.proofs.Counts.{few_tests, few_patterns, few_addresses_lem, slots_counted}
use Rattle.roundtrip.proofs.Fits.{option_fits, pattern_length}
use Rattle.roundtrip.proofs.Rows.{option_fits_lem}
use Rattle.roundtrip.proofs.Slots.{slots_fit_lem, bytes_fit_lem, lengths_in}

-- ---- the options of a text

pub options_fit : {l : List ℕ} {es : List OptionValue} → OptionsText l es → all? option_fits es ≡ true
options_fit close = all_none option_fits
options_fit (space o) = options_fit o
options_fit (OptionsBy.more {e} {es} t o) = all_more option_fits e es (option_fits_lem t).fits (options_fit o)

option_bytes : (e : OptionValue) (es : List OptionValue) → length (bytes_in (e ∷ es)) ≡ pattern_length e + length (bytes_in es)
unfolding bytes_in
option_bytes (Name n) es = omega arith
option_bytes (Protocol p) es = omega arith
option_bytes (Flow f) es = omega arith
option_bytes (Test it al) es = omega arith
option_bytes (Pattern n b) es = length-append b (bytes_in es)
option_bytes (Modified m) es = omega arith

pub options_bytes : {l : List ℕ} {es : List OptionValue} → OptionsText l es → length (bytes_in es) ≤ length l
unfolding bytes_in
options_bytes close = omega arith
options_bytes (space o) = omega (arith, options_bytes o)
options_bytes (OptionsBy.more {x} {l} {e} {es} t o) = omega (arith, option_bytes e es, (option_fits_lem t).small, options_bytes o, length-append x l)

-- ---- name and protocol

abbrev name_good : List ℕ → Bool
name_good n = between 1 max_name (length n) && all? (has quotable) n

name_good_lem : (es : List OptionValue) → all? option_fits es ≡ true → eqb (count (same_kind (Name [])) es) 0 ≡ false → name_good (name_in es) ≡ true
unfolding name_in keep
name_good_lem [] t c = never (cc)
name_good_lem (Name n ∷ es) t c = all_head option_fits (Name n) es t
name_good_lem (Protocol p ∷ es) t c = name_good_lem es (all_tail option_fits (Protocol p) es t) c
name_good_lem (Flow f ∷ es) t c = name_good_lem es (all_tail option_fits (Flow f) es t) c
name_good_lem (Test it al ∷ es) t c = name_good_lem es (all_tail option_fits (Test it al) es t) c
name_good_lem (Pattern n b ∷ es) t c = name_good_lem es (all_tail option_fits (Pattern n b) es t) c
name_good_lem (Modified m ∷ es) t c = name_good_lem es (all_tail option_fits (Modified m) es t) c

protocol_good : (es : List OptionValue) → all? option_fits es ≡ true → leb (protocol_in es) max_byte ≡ true
unfolding protocol_in
protocol_good [] t = refl
protocol_good (Name n ∷ es) t = protocol_good es (all_tail option_fits (Name n) es t)
protocol_good (Protocol p ∷ es) t = all_head option_fits (Protocol p) es t
protocol_good (Flow f ∷ es) t = protocol_good es (all_tail option_fits (Flow f) es t)
protocol_good (Test it al ∷ es) t = protocol_good es (all_tail option_fits (Test it al) es t)
protocol_good (Pattern n b ∷ es) t = protocol_good es (all_tail option_fits (Pattern n b) es t)
protocol_good (Modified m ∷ es) t = protocol_good es (all_tail option_fits (Modified m) es t)

-- ---- the table

-- what is known of a text's options
pub record Entries (es : List OptionValue) : Type 0 where
  pub fit : all? option_fits es ≡ true
  pub only : all? test_only es ≡ true
  pub occurrences : Occurrences [] es
  pub usable : usable_in es ≡ count is_pattern es
  pub complete : missing es ≡ false

no_slot_lem : slot_unused no_slot ≡ true
unfolding all?
no_slot_lem = refl

module _ (room : ℕ) (es : List OptionValue) (k : Entries es) where
  taken : take (length (slots_in es)) (padded max_items no_slot (slots_in es)) ≡ slots_in es
  taken = take-append_seam (slots_in es) (replicate (max_items - length (slots_in es)) no_slot)

  patterned : length (patterns_of (slots_in es)) ≡ count is_pattern es
  patterned = patterns_counted es k.only

  name_known : name_good (name_in es) ≡ true
  unfolding missing
  name_known = name_good_lem es k.fit (neither (eqb (count (same_kind (Name [])) es) 0) (eqb (count (same_kind (Protocol 0)) es) 0) k.complete).0

  name_formed : name_fits (table_of room es).name (table_of room es).len ≡ true
  unfolding name_fits table_of
  name_formed =
      let n = name_in es in
      let g = name_known in
      rw (take-append_seam n (replicate (max_name - length n) 0), drop-append_seam n (replicate (max_name - length n) 0))
      (both (both_left (between 1 max_name (length n)) (all? (has quotable) n) g)
      (both (both_right (between 1 max_name (length n)) (all? (has quotable) n) g) (all_replicate is_zero (max_name - length n) 0 refl)))

  items_formed : items_fit (table_of room es) ≡ true
  unfolding items_fit table_of
  items_formed =
      let c = slots_counted es in
      let t = few_tests es k.occurrences in
      let q = few_patterns es k.occurrences in
      let z = max_items - length (slots_in es) in
      rw (taken, drop-append_seam (slots_in es) (replicate z no_slot))
      (both (le-leb (length (slots_in es)) max_items (omega (arith, c, t, q)))
      (both (slots_fit_lem es k.fit (few_addresses_lem es k.occurrences))
      (both (all_replicate slot_unused z no_slot no_slot_lem)
      (both (le-leb (length (patterns_of (slots_in es))) max_patterns (omega (arith, q, patterned)))
      (le-leb (length (slots_in es) - length (patterns_of (slots_in es))) max_tests (omega (arith, c, t, patterned)))))))

  bytes_formed : length (bytes_in es) ≤ room → bytes_fit (table_of room es) ≡ true
  unfolding bytes_fit table_of
  bytes_formed h =
      let b = bytes_in es in
      let z = room - length b in
      rw (taken, take-append_seam b (replicate z 0), drop-append_seam b (replicate z 0))
      (both (eq-eqb (length b) (bytes_of (patterns_of (slots_in es))) (sym (lengths_in es k.only)))
      (both (le-leb (length b) (length (b ++ replicate z 0)) (omega (arith, length-append b (replicate z 0))))
      (both (bytes_fit_lem es k.fit) (all_replicate is_zero z 0 refl))))

  pub options_formed : length (bytes_in es) ≤ room → well_formed (table_of room es) ≡ true
  unfolding well_formed table_of
  options_formed h =
      both name_formed (both (protocol_good es k.fit) (both items_formed (both (bytes_formed h)
      (rw taken (eq-eqb (usable_run None (patterns_of (slots_in es))) (length (patterns_of (slots_in es))) (k.usable ∙ sym patterned))))))

  pub options_named : length (name_in es) ≤ max_name
  options_named =
      let n = name_in es in
      let h = both_left (between 1 max_name (length n)) (all? (has quotable) n) name_known in
      leb-true (length n) max_name (both_right (leb 1 (length n)) (leb (length n) max_name) h)

  pub options_slotted : length (slots_in es) ≤ max_items
  options_slotted = omega (arith, slots_counted es, few_tests es k.occurrences, few_patterns es k.occurrences)
