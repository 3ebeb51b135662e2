-- A RULE'S NUMBER HAS TWO BYTES, by the type of loaded rules: whatever stands in them, the rules that they say a book has are of such numbers.
use mathlib.Core.Path.{◌≡◌, refl}
use mathlib.Core.Bool.{true}
use mathlib.Core.List.{List, [], ◌∷◌, map}
use Prim.Native.Nat.{ℕ, zero, suc}
use lib.ListN.{take}
use borrow.Author.Tests.{lt-ltb}
use mir.Val.{Val}
use denote.Laws.{Is}
use denote.Shadow.{shadow}
use denote.Array.{each}
use Rattle.definitions.specs.declared.books.LoadedRule.{LoadedRule}
use Rattle.definitions.specs.declared.books.Rules.{Rules}
use Rattle.definitions.specs.Lists.{all?}
use Rattle.definitions.specs.LoadedBooks.{rule_at, rules_in}
use Rattle.definitions.specs.contracts.books.LoadedRule as rule-type
use Rattle.definitions.specs.contracts.books.Rules as rules-type
use Rattle.replay_totals.proofs.Outcomes.{is_narrow}

-- loaded rules, as an array has them
abbrev Held : List LoadedRule → List Val → Type 0
Held rs us = shadow (each (rule-type.the_row).Denot (rule-type.the_row).own_val rs us)

held_narrow : (book : List ℕ) (n : ℕ) (rs : List LoadedRule) (us : List Val) → Held rs us → all? is_narrow (map (rule_at book) (take n rs)) ≡ true
unfolding all? rule_at
held_narrow book zero rs us h = refl
held_narrow book (suc n) [] us h = refl
held_narrow book (suc n) (r ∷ rs) [] h = absurd h
held_narrow book (suc n) (r ∷ rs) (u ∷ us) h = let narrow = lt-ltb r.number 65536 h.0.1.1.0.1 in rw narrow (held_narrow book n rs us h.1)

pub typed_narrow : (book : List ℕ) (rs : Rules) (vs : List Val) → Is rules-type.the_row rs vs → all? is_narrow (rules_in book rs) ≡ true
unfolding rules_in
typed_narrow book rs vs is = held_narrow book rs.count rs.list _ is.1.1.1.0.1.1
