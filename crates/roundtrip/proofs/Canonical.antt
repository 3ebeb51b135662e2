-- THE CANONICAL TEXT of a well-formed table is a text of that table, so that it reads as it; two tables have two canonical texts; and the tables that have
-- a text
-- are the well-formed ones. The options of the table are written option by option, stand, and make the table again.
use Rattle.std.specs.Prelude.{None}
use mathlib.Core.Path.{◌≡◌, refl, sym, ap, subst, ◌∙◌}
use mathlib.Core.Bool.{true, false, ◌&&◌, false≢true}
use mathlib.Core.List.{List, [], ◌∷◌, ◌++◌, append_assoc}
use mathlib.Core.Logic.{◌↔◌}
use Prim.Native.Nat.{ℕ, ◌+◌}
use native.Mathlib.Omega.{arith}
use lib.ListN.{length, length-take}
use lib.Dec.{eqb-suc-zero}
use Rattle.forms.specs.Bytes.{text}
use Rattle.forms.proofs.Bools.{by_cases, both_left}
use Rattle.definitions.specs.declared.table.Table.{Table}
use Rattle.definitions.specs.Lists.{all?, keep, count}
use Rattle.definitions.specs.OptionValues.{OptionValue}
use Rattle.definitions.specs.Items.{slots_of, patterns_of}
use Rattle.definitions.specs.References.{usable_run}
use Rattle.definitions.specs.Occurrences.{is_test, is_pattern, missing}
use Rattle.definitions.specs.Reading.{accepted_reading, read_unbounded}
use Rattle.definitions.specs.Options.{printable, opening}
use Rattle.definitions.specs.Grammar.{OptionsBy, OptionsText, close, space, Derives}
use Rattle.definitions.specs.WellFormed.{Shaped, Readable, well_formed}
use Rattle.definitions.specs.Canonical.{option_text, options_text, canonical_options, canonical_text}
use Rattle.syntax.proofs.UsablePatterns.{options_tests, patterns_counted}
use Rattle.syntax.proofs.Exact.{syntax_exactly, one_table}
use Rattle.roundtrip.proofs.AllTests.{halves, all_head, all_tail, all_append, all_so}
use Rattle.roundtrip.proofs.RebuiltTable.{canonical_slots, canonical_table}
use Rattle.roundtrip.proofs.Counts.{slots_counted, few_addresses}
use Rattle.roundtrip.proofs.Fits.{option_fits, option_writable}
use Rattle.roundtrip.proofs.Parts.{formed}
use Rattle.roundtrip.proofs.Printed.{printed_opening, options_printed}
use Rattle.roundtrip.proofs.Read.{read_formed}
use Rattle.roundtrip.proofs.MayStand.{canonical_stands}
use Rattle.roundtrip.proofs.CanonicalFits.{good, canonical_good}
use Rattle.roundtrip.proofs.Written.{option_written}

-- ---- the options

options_written : (es : List OptionValue) → all? good es ≡ true → OptionsText (options_text es ++ text " )") es
unfolding options_text
options_written [] t = space close
options_written (e ∷ es) t =
    let h : (option_fits e ≡ true) × ((few_addresses e && option_writable e) ≡ true) = halves (all_head good e es t) in
    let g : (few_addresses e ≡ true) × (option_writable e ≡ true) = halves h.1 in
    let w = option_written e h.0 g.1 in
    let i = options_written es (all_tail good e es t) in
    let z : 32 ∷ (w.0 ++ (options_text es ++ text " )")) ≡ (option_text e ++ options_text es) ++ text " )" =
    ap (λ l. l ++ (options_text es ++ text " )")) (sym w.1) ∙ sym (append_assoc (option_text e) (options_text es) (text " )")) in
    subst (λ l. OptionsText l (e ∷ es)) z (space (OptionsBy.more w.2 i))

canonical_complete : (t : Table) → missing (canonical_options t) ≡ false
unfolding missing canonical_options keep
canonical_complete t = simp eqb-suc-zero

module _ (room : ℕ) (t : Table) (h : Shaped room t) (w : well_formed t ≡ true) where
  canonical_options_lem : OptionsText (options_text (canonical_options t) ++ text " )") (canonical_options t)
  canonical_options_lem = options_written (canonical_options t) (canonical_good room t h w)

  canonical_patterns : length (patterns_of (slots_of t)) ≡ count is_pattern (canonical_options t)
  canonical_patterns =
      ap (λ l. length (patterns_of l)) (sym (canonical_slots room t h w)) ∙ patterns_counted (canonical_options t) (options_tests canonical_options_lem)

  derived : Derives room (canonical_text t) t
  unfolding canonical_text
  derived =
      let f = formed t w in
      let c : length (slots_of t) ≡ count is_test (canonical_options t) + count is_pattern (canonical_options t) =
      ap length (sym (canonical_slots room t h w)) ∙ slots_counted (canonical_options t) in
      let l : length (slots_of t) ≡ t.count = omega (arith, length-take t.count t.items, f.count, h.slotted) in
      let few = all_so good few_addresses (λ e u. let g : (option_fits e ≡ true) × ((few_addresses e && option_writable e) ≡ true) = halves u in
      both_left (few_addresses e) (option_writable e) g.1) (canonical_options t) (canonical_good room t h w) in
      record {
        body = options_text (canonical_options t) ++ text " )";
        values = canonical_options t;
        framed = refl;
        printed = all_append printable opening (options_text (canonical_options t) ++ text " )") printed_opening (options_printed canonical_options_lem);
        made = canonical_options_lem;
        occurrences = canonical_stands t few (omega (arith, c, l, f.tests, canonical_patterns)) (omega (arith, f.patterns, canonical_patterns));
        usable = ap (λ l. usable_run None (patterns_of l)) (canonical_slots room t h w) ∙ f.usable ∙ canonical_patterns;
        complete = canonical_complete t;
        table = sym (canonical_table room t h w);
      }

-- ---- the theorems

pub canonical_derives : (room : ℕ) (t : Table) → Shaped room t → well_formed t ≡ true → Derives room (canonical_text t) t
canonical_derives = derived

pub canonical_reads : (room : ℕ) (t : Table) → Shaped room t → well_formed t ≡ true → read_unbounded room (canonical_text t) ≡ accepted_reading t
canonical_reads room t h w = (syntax_exactly room (canonical_text t) t).1 (canonical_derives room t h w)

-- REFUSAL 20 IS EXACT
pub readable_exactly : (room : ℕ) (t : Table) → Shaped room t → Readable room t ↔ (well_formed t ≡ true)
readable_exactly room t h = (λ r. read_formed room r.0 t h r.1, λ w. (canonical_text t, canonical_reads room t h w))

pub unreadable_exactly : (room : ℕ) (t : Table) → Shaped room t → (Readable room t → ⊥) ↔ (well_formed t ≡ false)
unreadable_exactly room t h =
    let exact = readable_exactly room t h in
    (λ n. by_cases (well_formed t) (λ w. absurd (n (exact.1 w))) (λ f. f), λ f r. false≢true (sym f ∙ exact.0 r))

-- two tables, two canonical texts
pub canonical_one : (room : ℕ) (t u : Table) → Shaped room t → Shaped room u → well_formed t ≡ true → well_formed u ≡ true
    → canonical_text t ≡ canonical_text u → t ≡ u
canonical_one room t u h k v w e =
    one_table room (canonical_text u) t u (subst (λ s. Derives room s t) e (canonical_derives room t h v)) (canonical_derives room u k w)

-- reading and writing a text once is enough
pub canonical_again : (room : ℕ) (s : List ℕ) (t : Table) → Shaped room t → read_unbounded room s ≡ accepted_reading t
    → read_unbounded room (canonical_text t) ≡ accepted_reading t
canonical_again room s t h e = canonical_reads room t h (read_formed room s t h e)
