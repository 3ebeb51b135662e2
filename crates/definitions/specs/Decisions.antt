-- WHAT A RULE BOOK DECIDES FOR A PACKET. Document 02, T-03.
use Rattle.std.specs.Prelude.{ℕ, Bool, true, false, ◌&&◌, List, [], ◌∷◌, if◌then◌else◌, Result, Ok, Err}
use Rattle.definitions.specs.declared.packets.Direction.{Direction}
use Rattle.definitions.specs.declared.packets.FieldMap.{FieldMap}
use Rattle.definitions.specs.declared.answers.Verdict.{Verdict}
use Rattle.definitions.specs.declared.answers.Verdict.TheVariants as verdict
use Rattle.definitions.specs.declared.books.State.{State}
use Rattle.definitions.specs.declared.books.State.TheVariants as state
use Rattle.definitions.specs.declared.books.Action.TheVariants as action
use Rattle.definitions.specs.declared.books.Decision.{Decision}
use Rattle.definitions.specs.declared.answers.BookRefusal.{BookRefusal}
use Rattle.definitions.specs.declared.answers.Refusal.{Refusal}
use Rattle.definitions.specs.Limits.{Limits}
use Rattle.definitions.specs.Reading.{read}
use Rattle.definitions.specs.Answers.{verdict_answer}
use Rattle.definitions.specs.Books.{Rule, rules_of, judge}

abbrev pub is_on : State → Bool
is_on state.On = true
is_on state.Off = false

-- there is a placement; a refusal has none
abbrev pub is_met : Result Verdict Refusal → Bool
is_met (Ok verdict.Met) = true
is_met (Ok verdict.NotMet) = false
is_met (Err r) = false

module _ (lim : Limits) (p decoded : List ℕ) (dir : Direction) (m : FieldMap) where
  -- the rule is on and has a placement
  unfoldable pub decides : Rule → Bool
  decides r = is_on r.state && is_met (verdict_answer (read lim r.source).table p decoded dir m)

  -- the first of some rules that decides; hold with rule 0 if none does
  unfoldable pub decided : List Rule → Result Decision BookRefusal
  decided [] = Ok (record { action = action.Hold; rule = 0 })
  decided (r ∷ rs) = if decides r then Ok (record { action = r.action; rule = r.number }) else decided rs

  -- the book is judged before the packet
  abbrev pub decided_if : Result ℕ BookRefusal → List Rule → Result Decision BookRefusal
  decided_if (Ok n) rs = decided rs
  decided_if (Err e) rs = Err e

  -- THE DECISION: by the lowest numbered rule that is on and has a placement, since numbers rise in an accepted book; or the book's refusal
  unfoldable pub decision : List ℕ → Result Decision BookRefusal
  decision book = decided_if (judge lim book) (rules_of book)
