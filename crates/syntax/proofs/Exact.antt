-- THE SYNTAX EXACTLY: the reader accepts a text with a table exactly if the grammar has the text for that table, so that a text has at most one
-- table. The reader's tests in their order are the grammar's conditions, and its loop reads the options' texts.
use Rattle.std.specs.Prelude.{Result, Ok, Err}
use mathlib.Core.Path.{◌≡◌, refl, sym, ap, subst, ◌∙◌}
use mathlib.Core.Bool.{true, false, not}
use mathlib.Core.List.{List, [], ◌++◌}
use mathlib.Core.Logic.{◌↔◌}
use Prim.Native.Nat.{ℕ, ◌≤◌}
use lib.ListN.{length, take, drop}
use lib.Seq.{drop-append_seam}
use lib.Dec.{ltb}
use borrow.Author.Tests.{ltb-false, le-ltb, not-false}
use Rattle.forms.specs.Bytes.{run}
use Rattle.definitions.specs.declared.answers.Refusal.{Refusal}
use Rattle.definitions.specs.declared.answers.Refusal.TheVariants as refusal
use Rattle.definitions.specs.declared.answers.TextRefusal.{TextRefusal}
use Rattle.definitions.specs.declared.table.Table.{Table}
use Rattle.definitions.specs.Limits.{Limits}
use Rattle.definitions.specs.Lists.{none?, all?, count, same_bytes}
use Rattle.definitions.specs.OptionValues.{OptionValue}
use Rattle.definitions.specs.Tables.{table_of}
use Rattle.definitions.specs.Occurrences.{is_pattern, missing}
use Rattle.definitions.specs.Reading.{Located, option_values_of, Options, ended, refused, at_letter, options, pattern_dash, refused_reading, accepted_reading}
use Rattle.definitions.specs.Reading.{checked_table, finished, unbounded_placing, read_placing, read_unbounded, read}
use Rattle.definitions.specs.Options.{printable, opening}
use Rattle.definitions.specs.References.{usable_in}
use Rattle.definitions.specs.Grammar.{Derives}
use Rattle.syntax.proofs.Truths.{cases, impossible}
use Rattle.syntax.proofs.Frame.{printed_exactly, opened_exactly}
use Rattle.syntax.proofs.Loop.{Extends, options_read_lem, ended_options}
use Rattle.syntax.proofs.UsablePatterns.{test_only, options_tests, usable_exactly}

-- ---- after the options

refused_never {ℓ} : {A : Type ℓ} (room : ℕ) (r : Refusal) (p : ℕ) (t : Table) → refused_reading room r p ≡ accepted_reading t → A
refused_never room r p t e =
    let z : ◌≡◌ {A = Result Unit TextRefusal} (Err (record { refusal = r; place = p })) (Ok tt) = ap (λ x. x.outcome) e in impossible (cc)

-- what is left to ask of the options
record Checked (room : ℕ) (es : List OptionValue) (t : Table) : Type 0 where
  usable : usable_in es ≡ count is_pattern es
  complete : missing es ≡ false
  table : t ≡ table_of room es

module _ (room : ℕ) (s : List ℕ) (located : List Located) (t : Table) (plain : all? test_only (option_values_of located) ≡ true) where
  checked_is : checked_table room s located ≡ accepted_reading t → Checked room (option_values_of located) t
  unfolding checked_table
  checked_is e =
      cases (ltb (usable_in (option_values_of located)) (count is_pattern (option_values_of located)))
      (λ a. refused_never room refusal.Unusable (pattern_dash located (usable_in (option_values_of located))) t (rw a at e))
      (λ a. cases (missing (option_values_of located))
      (λ b. refused_never room refusal.Missing (length s) t (rw (a, b) at e))
      (λ b.
      let z : accepted_reading (table_of room (option_values_of located)) ≡ accepted_reading t = rw (a, b) at e in
      record { usable = (usable_exactly (option_values_of located) plain).0 a; complete = b; table = sym (ap (λ x. x.table) z) }))

  is_checked : Checked room (option_values_of located) t → checked_table room s located ≡ accepted_reading t
  unfolding checked_table
  is_checked j = rw ((usable_exactly (option_values_of located) plain).1 j.usable, j.complete) (ap accepted_reading (sym j.table))

finished_is : (room : ℕ) (s : List ℕ) (o : Options) (t : Table) → finished room s o ≡ accepted_reading t
    → (located : List Located) × (o ≡ ended located) × (checked_table room s located ≡ accepted_reading t)
finished_is room s (ended located) t e = (located, refl, e)
finished_is room s (refused r p) t e = refused_never room r p t e

-- ---- the whole text

module _ (room : ℕ) (s : List ℕ) (t : Table) where
  told_derives : s ≡ opening ++ drop (length opening) s → all? printable s ≡ true → (located : List Located)
      → checked_table room s located ≡ accepted_reading t → Extends (drop (length opening) s) [] located → Derives room s t
  told_derives f p located q i =
      let j = subst (λ es. Checked room es t) i.3 (checked_is room s located t (rw i.3 (options_tests i.1)) q) in
      record {
        body = drop (length opening) s;
        values = i.0;
        framed = f;
        printed = p;
        made = i.1;
        occurrences = i.2;
        usable = j.usable;
        complete = j.complete;
        table = j.table;
      }

  accepted_derives : read_unbounded room s ≡ accepted_reading t → Derives room s t
  unfolding unbounded_placing
  accepted_derives e =
      cases (none? s)
      (λ a. refused_never room refusal.TextLength 0 t (rw a at e))
      (λ a. cases (ltb (run printable s) (length s))
      (λ b. refused_never room refusal.TextByte (run printable s) t (rw (a, b) at e))
      (λ b. cases (not (same_bytes (take (length opening) s) opening))
      (λ c. refused_never room refusal.Opening 0 t (rw (a, b, c) at e))
      (λ c.
      let f = finished_is room s (options at_letter s (drop (length opening) s) 0 (length opening) []) t (rw (a, b, c) at e) in
      told_derives ((opened_exactly s).0 (not-false (same_bytes (take (length opening) s) opening) c)) ((printed_exactly s).0 b) f.0 f.2
      (ended_options s (drop (length opening) s) 0 (length opening) [] f.0 refl f.1))))

  some_text : (body : List ℕ) → s ≡ opening ++ body → none? s ≡ false
  some_text body f = rw f

  derives_accepted : Derives room s t → read_unbounded room s ≡ accepted_reading t
  unfolding unbounded_placing
  derives_accepted d =
      let b : drop (length opening) s ≡ d.body = ap (drop (length opening)) d.framed ∙ drop-append_seam opening d.body in
      let f : s ≡ opening ++ drop (length opening) s = d.framed ∙ ap (λ l. opening ++ l) (sym b) in
      let i = options_read_lem d.made s (length opening) [] d.occurrences b in
      let j : Checked room d.values t = record { usable = d.usable; complete = d.complete; table = d.table } in
      rw (some_text d.body d.framed, (printed_exactly s).1 d.printed, (opened_exactly s).1 f, b, i.1)
      (is_checked room s i.0 t (rw i.2 (options_tests d.made)) (subst (λ es. Checked room es t) (sym i.2) j))

-- THE SYNTAX EXACTLY
pub syntax_exactly : (room : ℕ) (s : List ℕ) (t : Table) → (read_unbounded room s ≡ accepted_reading t) ↔ Derives room s t
syntax_exactly room s t = (λ e. accepted_derives room s t e, λ d. derives_accepted room s t d)

-- a text has at most one table
pub one_table : (room : ℕ) (s : List ℕ) (t u : Table) → Derives room s t → Derives room s u → t ≡ u
one_table room s t u d e = ap (λ x. x.table) (sym (derives_accepted room s t d) ∙ derives_accepted room s u e)

-- READING EXACTLY: the texts of the grammar within the limit
pub read_exactly : (lim : Limits) (s : List ℕ) (t : Table) → (read lim s ≡ accepted_reading t) ↔ (Derives lim.room s t × (length s ≤ lim.text))
unfolding read_placing
read_exactly lim s t = (
  λ e. cases (ltb lim.text (length s))
      (λ a. refused_never lim.room refusal.TextLength 0 t (rw a at e))
      (λ a. (accepted_derives lim.room s t (rw a at e), ltb-false lim.text (length s) a)),
  λ d. rw (le-ltb lim.text (length s) d.1) (derives_accepted lim.room s t d.0),
)
