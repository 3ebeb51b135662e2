-- What an option's reading and inserting say of the definition's step.
use Rattle.std.specs.Prelude.{Result, Ok, Err}
use mathlib.Core.Path.{◌≡◌, sym, ap, ◌∙◌, subst}
use mathlib.Core.List.{List, [], ◌∷◌, ◌++◌, append-nil}
use Prim.Native.Nat.{ℕ, ◌+◌, ◌≤◌}
use native.Mathlib.Omega.{arith}
use lib.ListN.{length, length-append, replicate}
use Rattle.forms.specs.Form.{Form}
use Rattle.forms.specs.Place.{Parsed}
use Rattle.definitions.specs.declared.table.Slot.{Slot}
use Rattle.definitions.specs.Limits.{document_limits, max_items}
use Rattle.definitions.specs.declared.answers.Refusal.{Refusal}
use Rattle.definitions.specs.declared.answers.Refusal.TheVariants as refusal
use Rattle.definitions.specs.declared.answers.TextRefusal.{TextRefusal}
use Rattle.definitions.specs.declared.table.Address.{Address}
use Rattle.definitions.specs.OptionValues.{OptionValue}
use Rattle.definitions.specs.Options.{unlisted, listed, option_at}
use Rattle.definitions.specs.Lists.{keep}
use Rattle.definitions.specs.Tables.{name_in, bytes_in, slots_in, no_slot}
use Rattle.definitions.specs.Reading.{Located, option_values_of, Options, refused, at_letter, option_step}
use Rattle.read_value.specs.declared.Value.{Value}
use Rattle.read_value.specs.declared.Value.TheVariants as value
use Rattle.read_value.specs.Values.{PatternBytes, pattern_bytes_of, option_value_of}
use Rattle.scan_cursors.specs.declared.Cursor.{Cursor}
use Rattle.scan_cursors.specs.declared.Cursor.TheVariants as cursor
use Rattle.scan_cursors.specs.Reads.{read_by, place_of}
use Rattle.read_frame.specs.Framing.{ended_by}
use Rattle.read_state.specs.declared.State.{State}
use Rattle.read_state.specs.declared.Inserted.{Inserted}
use Rattle.read_state.specs.State.{Holds, last_slot, Apart, After, located_also, put_in, Inserts, state_from, state_of}
use Rattle.read_by_name.specs.declared.parsed.ParsedOption.{ParsedOption}
use Rattle.read_by_name.specs.Parsing.{Parses}
use Rattle.read_insert.proofs.OptionEffects.{bytes_append}
use Rattle.read_insert.proofs.OneMore.{options_also, used_is}
use Rattle.read_steps.specs.Stepping.{step_by, StepsTo}

module _ (s : List ℕ) (at : ℕ) (es : List OptionValue) (K : OptionValue → ℕ → Options) where
  pub taken_unlisted : option_at s at ≡ unlisted → option_step at_letter (option_at s at) es at K ≡ refused refusal.NotListed at
  taken_unlisted e = rw e

  pub taken_refused : (v : OptionValue) (d : Cursor) {r : TextRefusal} → option_at s at ≡ listed (read_by v d) → ended_by d ≡ Err r
      → option_step at_letter (option_at s at) es at K ≡ refused r.refusal r.place
  taken_refused v d e f = rw e (go d f)
    where
      go : (d : Cursor) {r : TextRefusal} → ended_by d ≡ Err r → option_step at_letter (listed (read_by v d)) es at K ≡ refused r.refusal r.place
      go (cursor.Parsed n) g = absurd (let z : ◌≡◌ {A = ℕ} 0 1 = cc in omega arith)
      go (cursor.OutOfRange p n) g = cc
      go (cursor.Failed p) g = cc

-- an option that ends at a place went on to it
pub ended_parsed : (d : Cursor) {n : ℕ} → ended_by d ≡ Ok n → d ≡ cursor.Parsed n
ended_parsed (cursor.Parsed m) e = cc
ended_parsed (cursor.OutOfRange p m) e = absurd (let z : ◌≡◌ {A = ℕ} 0 1 = cc in omega arith)
ended_parsed (cursor.Failed p) e = absurd (let z : ◌≡◌ {A = ℕ} 0 1 = cc in omega arith)

-- how many pattern bytes one option more brings
bytes_located : (s : List ℕ) (v : Value) (al : List Address) (b : List ℕ) → Apart s v al b → bytes_in (option_value_of s v al b ∷ []) ≡ b
unfolding bytes_in option_value_of
bytes_located s (value.Name from n) al b a = sym a.4
bytes_located s (value.Protocol p) al b a = sym a.1
bytes_located s (value.Flow f) al b a = sym a.1
bytes_located s (value.Test it) al b a = sym a.1
bytes_located s (value.Addresses t) al b a = sym a.1
bytes_located s (value.Pattern negated n) al b a = append-nil b
bytes_located s (value.Context c) al b a = sym a.1
bytes_located s value.NoCase al b a = sym a.1
bytes_located s (value.Distance d) al b a = sym a.1
bytes_located s (value.Within w) al b a = sym a.1

used_also : {s : List ℕ} {located : List Located} {st u : State} {bytes after : List ℕ} {items put : List Slot} (dash : ℕ) (v : Value)
    (al : List Address) (b : List ℕ) → Apart s v al b → Holds s located st bytes items
    → Holds s (located_also located dash (option_value_of s v al b)) u after put → u.used ≡ st.used + length b
used_also {s} {located} dash v al b a h g =
    used_is g
    ∙ ap (λ (l : List OptionValue). length (bytes_in l)) (options_also located dash (option_value_of s v al b))
    ∙ ap length (bytes_append (option_values_of located) (option_value_of s v al b ∷ [])
    ∙ ap (λ (l : List ℕ). bytes_in (option_values_of located) ++ l) (bytes_located s v al b a))
    ∙ length-append (bytes_in (option_values_of located)) b
    ∙ ap (λ (n : ℕ). n + length b) (sym (used_is h))

-- the option is read: what its value stands after and brings
unfoldable pub read_after : {f : Form OptionValue} {s : List ℕ} {to : ℕ} {bytes after : List ℕ} {st : State} {items : List Slot} {last : Slot}
    (located : List Located) (r : ParsedOption)
    → Parses f s to (pattern_bytes_of bytes st.used) (pattern_bytes_of after r.used) r → Holds s located st bytes items → last ≡ last_slot items st
    → (n : ℕ) → r.cursor ≡ cursor.Parsed n → st.used ≤ to → n ≤ length s → length s ≤ document_limits.text
    → After st last r.value r.list r.used
read_after {s = s} {bytes = bytes} {items = items} located r p h l n q after inside short =
    record {
      text = s;
      located = located;
      bytes = bytes;
      items = items;
      al = p.al;
      b = p.b;
      holds = h;
      latest = l;
      beside = record {
        addresses = p.kept;
        counted = ap (λ (m : PatternBytes). m.used) p.stored;
        fits = omega (arith, after, short, p.grown n q, inside);
        apart = p.apart n q;
      };
    }

-- the option is read and inserted: on after it, unless something is due
module _ (s : List ℕ) (located : List Located) (st : State) (bytes stored after : List ℕ) (items : List Slot) (at n : ℕ) (v : Value)
    (al : List Address) (b : List ℕ)
    (apart : Apart s v al b) (held : Holds s located st bytes items) (same : stored ≡ after)
    (is : option_at s at ≡ listed (Parsed (option_value_of s v al b) n)) (inside : n ≤ length s) (onward : at + 2 ≤ n) (grown : st.used + length b ≤ n) where
  pub stepped : (r : Result Inserted Refusal) → Inserts s located at (option_value_of s v al b) stored items r
      → StepsTo s located at (step_by r at n) after items
  stepped (Ok i) w =
      let g = subst (λ (l : List ℕ). Holds s (located_also located at (option_value_of s v al b)) i.state l (put_in items i.put)) same w.1 in (
        option_value_of s v al b,
        (λ K. rw (is, w.0)),
        g,
        w.2,
        (let q = used_also at v al b apart held g in omega (arith, q, grown)),
        onward,
        inside,
      )
  stepped (Err r) w = λ K. rw (is, w)

-- the place after a cursor that goes on
pub parsed_inside : (s : List ℕ) (d : Cursor) (n : ℕ) → place_of d ≤ length s → d ≡ cursor.Parsed n → n ≤ length s
parsed_inside s d n h e = subst (λ (x : Cursor). place_of x ≤ length s) e h

-- before the first option
pub fresh_holds : (s : List ℕ) (st : State) (bytes : List ℕ) (items : List Slot) → st ≡ state_of 0 [] → bytes ≡ replicate document_limits.room 0
    → items ≡ replicate max_items no_slot
    → Holds s [] st bytes items × (st.used ≤ 0)
unfolding state_from name_in bytes_in slots_in keep
fresh_holds s st bytes items e b i =
    let from : st.from ≡ 0 = ap (λ (x : State). x.from) e in
    let len : st.len ≡ 0 = ap (λ (x : State). x.len) e in
    let used : st.used ≡ 0 = ap (λ (x : State). x.used) e in (
      record {
        is = e ∙ ap (λ (n : ℕ). state_of n []) (sym from);
        named = record { is = rw len; inside = omega (arith, from, len); short = omega (arith, len) };
        stored = b;
        slots = i;
        patterns = omega arith;
        tests = omega arith;
      },
      omega (arith, used),
    )
