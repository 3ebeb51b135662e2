-- The options said and one more: their options, the dashes of their patterns, and what holds of the state after them.
use mathlib.Core.Path.{◌≡◌, refl, sym, ap, subst, ◌∙◌}
use mathlib.Core.Bool.{Bool, true, false, not, ◌||◌}
use mathlib.Core.List.{List, [], ◌∷◌, ◌++◌, map, append-nil, map-append}
use Prim.Native.Nat.{ℕ, suc, ◌≤◌, ◌<◌}
use native.Mathlib.Omega.{arith}
use lib.ListN.{length}
use lib.Dec.{eqb, eqb-suc-zero}
use Rattle.forms.proofs.Bools.{by_cases}
use Rattle.definitions.specs.Limits.{document_limits, max_patterns, max_tests, max_items}
use Rattle.definitions.specs.Lists.{any?, keep, keep_one, count, padded}
use Rattle.definitions.specs.declared.table.Slot.{Slot}
use Rattle.definitions.specs.OptionValues.{OptionValue}
use Rattle.definitions.specs.Tables.{name_in, bytes_in, slots_in, no_slot}
use Rattle.definitions.specs.Occurrences.{is_test, is_pattern}
use Rattle.definitions.specs.Reading.{Located, option_values_of}
use Rattle.read_state.specs.declared.State.{State}
use Rattle.read_state.specs.State.{dashes_of, last_place, state_from, located_also, NameAt, Holds}
use Rattle.read_state.specs.Sound.{Sound}
use Rattle.read_insert.proofs.OptionEffects.{keep_append, slots_length, last_none}
use Rattle.read_insert.proofs.LastPattern.{last_is}
use Rattle.list_laws.proofs.Padded.{padded_full}
use Rattle.read_insert.proofs.Items.{items_of}

-- ---- a test that some element passes, and how many do

count_by : {A : Type 0} (t : Bool) (x : A) (l : List A) (any : Bool) → eqb (length l) 0 ≡ not any → eqb (length (keep_one t x l)) 0 ≡ not (t || any)
count_by true x l any e = eqb-suc-zero (length l)
count_by false x l any e = e

pub count_none : {A : Type 0} (f : A → Bool) (l : List A) → eqb (count f l) 0 ≡ not (any? f l)
unfolding keep any?
count_none f [] = refl
count_none f (x ∷ l) = count_by (f x) x (keep f l) (any? f l) (count_none f l)

-- ---- options and dashes

pub options_also : (located : List Located) (dash : ℕ) (e : OptionValue) → option_values_of (located_also located dash e) ≡ option_values_of located ++ (e ∷ [])
options_also located dash e = map-append (λ (d : Located). d.value) located (record { dash = dash; value = e } ∷ [])

dashes_append : (a b : List Located) → dashes_of (a ++ b) ≡ dashes_of a ++ dashes_of b
dashes_append a b =
    let patterned : Located → Bool = λ d. is_pattern d.value in
    rw (keep_append patterned a b) (map-append (λ (d : Located). d.dash) (keep patterned a) (keep patterned b))

pub dashes_same : (located : List Located) (dash : ℕ) (e : OptionValue) → is_pattern e ≡ false → dashes_of (located_also located dash e) ≡ dashes_of located
unfolding keep
dashes_same located dash e h = dashes_append located (record { dash = dash; value = e } ∷ []) ∙ rw h (append-nil (dashes_of located))

pub dashes_new : (located : List Located) (dash : ℕ) (e : OptionValue) → is_pattern e ≡ true
    → dashes_of (located_also located dash e) ≡ dashes_of located ++ (dash ∷ [])
unfolding keep
dashes_new located dash e h = dashes_append located (record { dash = dash; value = e } ∷ []) ∙ rw h

dash_kept : (t : Bool) (d : Located) (l : List Located) (m : List OptionValue) → length (map (λ (x : Located). x.dash) l) ≡ length m
    → length (map (λ (x : Located). x.dash) (keep_one t d l)) ≡ length (keep_one t d.value m)
dash_kept true d l m h = ap suc h
dash_kept false d l m h = h

pub dashes_length : (located : List Located) → length (dashes_of located) ≡ count is_pattern (option_values_of located)
unfolding keep
dashes_length [] = refl
dashes_length (d ∷ located) = dash_kept (is_pattern d.value) d _ _ (dashes_length located)

-- ---- what holds

-- after one option more: from the state with it, its name, bytes and items, and the counts
pub holds_also : (s : List ℕ) (located : List Located) (dash : ℕ) (e : OptionValue) (ds : List ℕ) (st : State) (bytes : List ℕ) (items : List Slot)
    → dashes_of (located_also located dash e) ≡ ds
    → st ≡ state_from st.from (option_values_of located ++ (e ∷ [])) ds
    → NameAt s st.from st.len (name_in (option_values_of located ++ (e ∷ [])))
    → bytes ≡ padded document_limits.room 0 (bytes_in (option_values_of located ++ (e ∷ [])))
    → items ≡ items_of (option_values_of located ++ (e ∷ []))
    → count is_pattern (option_values_of located ++ (e ∷ [])) ≤ max_patterns → count is_test (option_values_of located ++ (e ∷ [])) ≤ max_tests
    → Holds s (located_also located dash e) st bytes items
holds_also s located dash e ds st bytes items d k n b i p t =
    record {
      is = k ∙ sym (rw (options_also located dash e, d));
      named = rw (options_also located dash e) n;
      stored = rw (options_also located dash e) b;
      slots = rw (options_also located dash e) i;
      patterns = rw (options_also located dash e) p;
      tests = rw (options_also located dash e) t;
    }

few : (es : List OptionValue) → count is_pattern es ≤ max_patterns → count is_test es ≤ max_tests → last_place es < max_items
few es p t =
    by_cases (any? is_pattern es)
    (λ a. omega (arith, (last_is es a).1.within, slots_length es))
    (λ f. omega (arith, last_none es f))

-- what the code's stores and sums rest on
pub sound : {s : List ℕ} {located : List Located} {st : State} {bytes : List ℕ} {items : List Slot} → Holds s located st bytes items → Sound st
unfolding state_from
sound {located = located} h =
    subst (λ (s : State). Sound s) (sym h.is)
    (record {
      count = slots_length (option_values_of located);
      patterns = h.patterns;
      tests = h.tests;
      last =
          few (option_values_of located) h.patterns h.tests;
    })

-- ---- the arrays beside the state are full

module _ {s : List ℕ} {located : List Located} {st : State} {bytes : List ℕ} {items : List Slot} (h : Holds s located st bytes items) where
  pub used_is : st.used ≡ length (bytes_in (option_values_of located))
  unfolding state_from
  used_is = ap (λ (x : State). x.used) h.is

  pub bytes_full : st.used ≤ document_limits.room → length bytes ≡ document_limits.room
  bytes_full f = ap length h.stored ∙ padded_full document_limits.room 0 (bytes_in (option_values_of located)) (omega (arith, used_is, f))

  pub items_full : length items ≡ max_items
  items_full =
      let p = h.patterns in
      let t = h.tests in
      ap length h.slots ∙ padded_full max_items no_slot (slots_in (option_values_of located)) (omega (arith, slots_length (option_values_of located), p, t))
