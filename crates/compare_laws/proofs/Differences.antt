-- WHAT IS SAID TO DIFFER DIFFERS, AND NOTHING ELSE: `state`, `action` and `text` stand among the words exactly if the states, the actions, the tables of two
-- rules are not equal. The words are told apart by computing, in each of eight ways.
use mathlib.Core.Path.{◌≡◌, refl}
use mathlib.Core.Logic.{◌↔◌}
use mathlib.Core.Bool.{Bool, true, false, not}
use mathlib.Core.List.{List}
use Prim.Native.Nat.{ℕ}
use Rattle.forms.specs.Bytes.{text}
use Rattle.forms.proofs.Sound.{never}
use Rattle.definitions.specs.Lists.{any?, same_bytes}
use Rattle.table_equality.specs.SameTables.{same_table}
use Rattle.table_equality.proofs.Exactly.{same_table_exactly}
use Rattle.compare_laws.specs.Comparisons.{ReadRule, same_state, same_action, differing, differences}
use Rattle.compare_laws.proofs.Alike.{state_exactly, action_exactly}

-- a word stands among others
abbrev pub listed : List ℕ → List (List ℕ) → Bool
listed w ws = any? (same_bytes w) ws

state_listed : (s a t : Bool) → listed (text "state") (differing s a t) ≡ s
unfolding any? same_bytes
state_listed true true true = refl
state_listed true true false = refl
state_listed true false true = refl
state_listed true false false = refl
state_listed false true true = refl
state_listed false true false = refl
state_listed false false true = refl
state_listed false false false = refl

action_listed : (s a t : Bool) → listed (text "action") (differing s a t) ≡ a
unfolding any? same_bytes
action_listed true true true = refl
action_listed true true false = refl
action_listed true false true = refl
action_listed true false false = refl
action_listed false true true = refl
action_listed false true false = refl
action_listed false false true = refl
action_listed false false false = refl

text_listed : (s a t : Bool) → listed (text "text") (differing s a t) ≡ t
unfolding any? same_bytes
text_listed true true true = refl
text_listed true true false = refl
text_listed true false true = refl
text_listed true false false = refl
text_listed false true true = refl
text_listed false true false = refl
text_listed false false true = refl
text_listed false false false = refl

-- a test that says P, turned
not_exactly : (l b : Bool) {P : Type 0} → l ≡ not b → (b ≡ true) ↔ P → (l ≡ true) ↔ (P → ⊥)
not_exactly l true e h = (λ t. never (cc), λ f. absurd (f (h.0 refl)))
not_exactly l false e h = (λ t p. let z : false ≡ true = h.1 p in never (cc), λ f. e)

module _ (a b : ReadRule) where
  abbrev s : Bool
  s = not (same_state a.state b.state)

  abbrev c : Bool
  c = not (same_action a.action b.action)

  abbrev t : Bool
  t = not (same_table a.table b.table)

  pub states_differ : (listed (text "state") (differences a b) ≡ true) ↔ (a.state ≡ b.state → ⊥)
  unfolding differences
  states_differ = not_exactly _ (same_state a.state b.state) (state_listed s c t) (state_exactly a.state b.state)

  pub actions_differ : (listed (text "action") (differences a b) ≡ true) ↔ (a.action ≡ b.action → ⊥)
  unfolding differences
  actions_differ = not_exactly _ (same_action a.action b.action) (action_listed s c t) (action_exactly a.action b.action)

  pub texts_differ : (listed (text "text") (differences a b) ≡ true) ↔ (a.table ≡ b.table → ⊥)
  unfolding differences
  texts_differ = not_exactly _ (same_table a.table b.table) (text_listed s c t) (same_table_exactly a.table b.table)
