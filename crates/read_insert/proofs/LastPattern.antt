-- A modifier changes the last pattern's slot and nothing else: by cases on whether a further pattern stands after the one at hand.
use mathlib.Core.Path.{◌≡◌, refl, ap, ◌∙◌}
use mathlib.Core.Bool.{true, false, false≢true, true≢false}
use mathlib.Core.List.{List, [], ◌∷◌, ◌++◌}
use Prim.Native.Nat.{suc, ◌<◌}
use native.Mathlib.Omega.{arith}
use lib.ListN.{length, get_or, set}
use Rattle.forms.proofs.Bools.{by_cases}
use Rattle.definitions.specs.declared.table.Pattern as patterns
use Rattle.definitions.specs.declared.table.Item.TheVariants as item
use Rattle.definitions.specs.declared.table.Slot.{Slot}
use Rattle.definitions.specs.Lists.{any?}
use Rattle.definitions.specs.OptionValues.{Modifier, OptionValue, Name, Protocol, Flow, Test, Pattern, Modified}
use Rattle.definitions.specs.Tables.{slots_in, slot_of, modified, bare, with}
use Rattle.definitions.specs.Occurrences.{is_pattern}
use Rattle.read_state.specs.State.{last_place}

-- with no further pattern among the options, a modifier after them belongs to the pattern before them
none_modified : (es : List OptionValue) (m : Modifier) → any? is_pattern es ≡ false
    → (p : patterns.Pattern) → modified (es ++ (Modified m ∷ [])) p ≡ with m (modified es p)
unfolding modified any?
none_modified [] m h p = refl
none_modified (Name n ∷ es) m h p = none_modified es m h p
none_modified (Protocol q ∷ es) m h p = none_modified es m h p
none_modified (Flow f ∷ es) m h p = none_modified es m h p
none_modified (Test it al ∷ es) m h p = none_modified es m h p
none_modified (Pattern n b ∷ es) m h p = absurd (true≢false h)
none_modified (Modified k ∷ es) m h p = none_modified es m h (with k p)

none_slots : (es : List OptionValue) (m : Modifier) → any? is_pattern es ≡ false → slots_in (es ++ (Modified m ∷ [])) ≡ slots_in es
unfolding slots_in any?
none_slots [] m h = refl
none_slots (Name n ∷ es) m h = none_slots es m h
none_slots (Protocol q ∷ es) m h = none_slots es m h
none_slots (Flow f ∷ es) m h = none_slots es m h
none_slots (Test it al ∷ es) m h = ap (λ (l : List Slot). slot_of it al ∷ l) (none_slots es m h)
none_slots (Pattern n b ∷ es) m h = absurd (true≢false h)
none_slots (Modified k ∷ es) m h = none_slots es m h

-- with a further pattern among them it does not
some_modified : (es : List OptionValue) (m : Modifier) → any? is_pattern es ≡ true → (p : patterns.Pattern)
    → modified (es ++ (Modified m ∷ [])) p ≡ modified es p
unfolding modified any?
some_modified [] m h p = absurd (false≢true h)
some_modified (Name n ∷ es) m h p = some_modified es m h p
some_modified (Protocol q ∷ es) m h p = some_modified es m h p
some_modified (Flow f ∷ es) m h p = some_modified es m h p
some_modified (Test it al ∷ es) m h p = some_modified es m h p
some_modified (Pattern n b ∷ es) m h p = refl
some_modified (Modified k ∷ es) m h p = some_modified es m h (with k p)

-- the last pattern: its slot among the slots, and the slots after one modifier more
pub record LastIs (es : List OptionValue) (p : patterns.Pattern) : Type 0 where
  pub within : last_place es < length (slots_in es)
  pub slot : (d : Slot) → get_or (slots_in es) (last_place es) d ≡ slot_of (item.Pattern p) []
  pub changed : (m : Modifier) → slots_in (es ++ (Modified m ∷ [])) ≡ set (slots_in es) (last_place es) (slot_of (item.Pattern (with m p)) [])

after : (es : List OptionValue) (e : OptionValue) (p : patterns.Pattern) → LastIs es p → slots_in (e ∷ es) ≡ slots_in es
    → last_place (e ∷ es) ≡ last_place es
    → ((m : Modifier) → slots_in (e ∷ (es ++ (Modified m ∷ []))) ≡ slots_in (es ++ (Modified m ∷ [])))
    → LastIs (e ∷ es) p
after es e p k s l c =
    record {
      within = rw (s, l) k.within;
      slot = λ d. rw (s, l) (k.slot d);
      changed = λ m. rw (s, l) (c m ∙ k.changed m);
    }

further : (es : List OptionValue) (e : OptionValue) (sl : Slot) (p : patterns.Pattern) → LastIs es p → slots_in (e ∷ es) ≡ sl ∷ slots_in es
    → last_place (e ∷ es) ≡ suc (last_place es)
    → ((m : Modifier) → slots_in (e ∷ (es ++ (Modified m ∷ []))) ≡ sl ∷ slots_in (es ++ (Modified m ∷ [])))
    → LastIs (e ∷ es) p
further es e sl p k s l c =
    record {
      within = rw (s, l) (omega (arith, k.within));
      slot = λ d. rw (s, l) (k.slot d);
      changed = λ m. rw (s, l) (c m ∙ ap (λ (x : List Slot). sl ∷ x) (k.changed m));
    }

pub last_is : (es : List OptionValue) → any? is_pattern es ≡ true → (p : patterns.Pattern) × LastIs es p
unfolding any? slots_in last_place
last_is [] h = absurd (false≢true h)
last_is (Name n ∷ es) h = let k = last_is es h in (k.0, after es (Name n) k.0 k.1 refl refl (λ m. refl))
last_is (Protocol q ∷ es) h = let k = last_is es h in (k.0, after es (Protocol q) k.0 k.1 refl refl (λ m. refl))
last_is (Flow f ∷ es) h = let k = last_is es h in (k.0, after es (Flow f) k.0 k.1 refl refl (λ m. refl))
last_is (Test it al ∷ es) h = let k = last_is es h in (k.0, further es (Test it al) (slot_of it al) k.0 k.1 refl (rw h) (λ m. refl))
last_is (Pattern n b ∷ es) h =
    by_cases (any? is_pattern es)
    (λ t.
    let k = last_is es t in
    let sl : Slot = slot_of (item.Pattern (modified es (bare n (length b)))) [] in
    (k.0, further es (Pattern n b) sl k.0 k.1 refl (rw t) (λ m. rw (some_modified es m t (bare n (length b))))))
    (λ f. (
      modified es (bare n (length b)),
      record {
        within = rw f (omega arith);
        slot = λ d. rw f;
        changed = λ m. rw (f, none_modified es m f (bare n (length b)), none_slots es m f);
      },
    ))
last_is (Modified k ∷ es) h = let l = last_is es h in (l.0, after es (Modified k) l.0 l.1 refl refl (λ m. refl))
