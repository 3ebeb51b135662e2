-- What two states, or what is given in two, have to agree in; and what one option more leaves as it is.
use mathlib.Core.Path.{◌≡◌, ◌∙◌}
use mathlib.Core.Bool.{Bool, true, false}
use mathlib.Core.List.{List, [], ◌∷◌, ◌++◌, append-nil}
use Prim.Native.Nat.{◌+◌}
use native.Mathlib.Omega.{arith}
use Rattle.definitions.specs.declared.table.Flow.TheVariants.{Any}
use Rattle.definitions.specs.declared.table.Pattern as patterns
use Rattle.definitions.specs.declared.table.Slot.{Slot}
use Rattle.forms.proofs.Bools.{or-false}
use Rattle.definitions.specs.Lists.{any?, count}
use Rattle.definitions.specs.OptionValues.{Modifier, OptionValue, Name, Protocol, Flow}
use Rattle.definitions.specs.Tables.{bytes_in, slots_in, modified}
use Rattle.definitions.specs.Occurrences.{same_kind, latest}
use Rattle.read_state.specs.declared.Given.{Given}
use Rattle.read_state.specs.declared.State.{State}
use Rattle.read_state.specs.State.{modifier_among, given_in}
use Rattle.read_insert.proofs.OptionEffects.{or_true, any_append, count_append, bytes_append, slots_append, latest_append}

-- ---- two states whose fields are equal

pub record Alike (a b : State) : Type 0 where
  pub from : a.from ≡ b.from
  pub len : a.len ≡ b.len
  pub protocol : a.protocol ≡ b.protocol
  pub flow : a.flow ≡ b.flow
  pub used : a.used ≡ b.used
  pub count : a.count ≡ b.count
  pub given : a.given ≡ b.given
  pub patterns : a.patterns ≡ b.patterns
  pub tests : a.tests ≡ b.tests
  pub last : a.last ≡ b.last
  pub dashes : a.dashes ≡ b.dashes

pub alike : (a b : State) → Alike a b → a ≡ b
alike a b k = λ i.
    record {
      from = k.from i;
      len = k.len i;
      protocol = k.protocol i;
      flow = k.flow i;
      used = k.used i;
      count = k.count i;
      given = k.given i;
      patterns = k.patterns i;
      tests = k.tests i;
      last = k.last i;
      dashes = k.dashes i;
    }

abbrev pub given_by : Bool → Bool → Bool → List Modifier → Given
given_by n p f ms =
    record {
      name = n;
      protocol = p;
      flow = f;
      context = modifier_among 0 ms;
      nocase = modifier_among 1 ms;
      distance = modifier_among 2 ms;
      within = modifier_among 3 ms;
    }

-- ---- an option e more, of whatever kind, at what it leaves as it is

module _ (es : List OptionValue) (e : OptionValue) where
  pub any_same : (k : OptionValue → Bool) → any? k (e ∷ []) ≡ false → any? k (es ++ (e ∷ [])) ≡ any? k es
  any_same k h = any_append k es (e ∷ []) ∙ rw h (or-false (any? k es))

  pub any_new : (k : OptionValue → Bool) → any? k (e ∷ []) ≡ true → any? k (es ++ (e ∷ [])) ≡ true
  any_new k h = any_append k es (e ∷ []) ∙ rw h (or_true (any? k es))

  pub count_same : (k : OptionValue → Bool) → count k (e ∷ []) ≡ 0 → count k (es ++ (e ∷ [])) ≡ count k es
  count_same k h = omega (arith, count_append k es (e ∷ []))

  pub count_new : (k : OptionValue → Bool) → count k (e ∷ []) ≡ 1 → count k (es ++ (e ∷ [])) ≡ count k es + 1
  count_new k h = omega (arith, count_append k es (e ∷ []))

  pub bytes_same : bytes_in (e ∷ []) ≡ [] → bytes_in (es ++ (e ∷ [])) ≡ bytes_in es
  bytes_same h = bytes_append es (e ∷ []) ∙ rw h (append-nil (bytes_in es))

  pub slots_same : ((p : patterns.Pattern) → modified (e ∷ []) p ≡ p) → slots_in (e ∷ []) ≡ []
      → slots_in (es ++ (e ∷ [])) ≡ slots_in es
  slots_same h s = slots_append es (e ∷ []) h ∙ rw s (append-nil (slots_in es))

  pub slots_new : (sl : Slot) → ((p : patterns.Pattern) → modified (e ∷ []) p ≡ p) → slots_in (e ∷ []) ≡ sl ∷ []
      → slots_in (es ++ (e ∷ [])) ≡ slots_in es ++ (sl ∷ [])
  slots_new sl h s = slots_append es (e ∷ []) h ∙ rw s

  -- what is given, from whether name, protocol and flow are, and the modifiers after the last pattern
  pub given_now : {n p f : Bool} (ms : List Modifier) → any? (same_kind (Name [])) (es ++ (e ∷ [])) ≡ n → any? (same_kind (Protocol 0)) (es ++ (e ∷ [])) ≡ p
      → any? (same_kind (Flow Any)) (es ++ (e ∷ [])) ≡ f → latest (latest [] es) (e ∷ []) ≡ ms → given_in (es ++ (e ∷ [])) ≡ given_by n p f ms
  given_now ms hn hp hf hm =
      let h : latest [] (es ++ (e ∷ [])) ≡ ms = latest_append [] es (e ∷ []) ∙ hm in
      λ i. given_by (hn i) (hp i) (hf i) (h i)

  pub given_kept : (ms : List Modifier) → any? (same_kind (Name [])) (e ∷ []) ≡ false → any? (same_kind (Protocol 0)) (e ∷ []) ≡ false
      → any? (same_kind (Flow Any)) (e ∷ []) ≡ false → latest (latest [] es) (e ∷ []) ≡ ms
      → given_in (es ++ (e ∷ [])) ≡ given_by (any? (same_kind (Name [])) es) (any? (same_kind (Protocol 0)) es) (any? (same_kind (Flow Any)) es) ms
  given_kept ms hn hp hf hm = given_now ms (any_same (same_kind (Name [])) hn) (any_same (same_kind (Protocol 0)) hp) (any_same (same_kind (Flow Any)) hf) hm
