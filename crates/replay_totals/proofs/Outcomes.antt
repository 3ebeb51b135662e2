-- WHAT A NUMBER SAYS, by the two tests; and the number of a line says what is said of the line, where rules' numbers are below 65536.
use Rattle.std.specs.Prelude.{Ok}
use mathlib.Core.Path.{◌≡◌, refl, ap, ◌∙◌}
use mathlib.Core.Bool.{Bool, true}
use mathlib.Core.List.{List, [], ◌∷◌}
use Prim.Native.Nat.{ℕ, ◌+◌, ◌-◌, ◌≤◌, ◌<◌}
use native.Mathlib.Omega.{arith}
use lib.Dec.{ltb}
use borrow.Author.Tests.{eq-eqb, ne_eqb, le-leb, lt-leb, ltb-true}
use Rattle.forms.proofs.Bools.{by_cases, both_left, both_right}
use Rattle.definitions.specs.declared.books.Action.{Action}
use Rattle.definitions.specs.declared.books.Action.TheVariants as action
use Rattle.definitions.specs.Limits.{Limits}
use Rattle.definitions.specs.Lists.{all?}
use Rattle.definitions.specs.Books.{Rule}
use Rattle.definitions.specs.Decisions.{decides, decided}
use Rattle.definitions.specs.Blocks.{PacketRecord, decision_number, record_number}
use Rattle.replay_laws.specs.Traces.{is_trace_line, trace_record}
use Rattle.replay_laws.specs.Replays.{pass, hold, bad, outcome_by, outcome}
use Rattle.replay_totals.specs.OutcomeNumbers.{bad_number, line_number, outcome_of}

-- ---- by the tests

pub says_bad : (n : ℕ) → n ≡ bad_number → outcome_of n ≡ bad
unfolding outcome_of
says_bad n e = rw (eq-eqb n bad_number e)

module _ (n : ℕ) (other : n ≡ bad_number → ⊥) where
  pub says_pass : 65536 ≤ n → outcome_of n ≡ pass (n - 65536)
  unfolding outcome_of
  says_pass h = rw (ne_eqb n bad_number other, le-leb 65536 n h)

  pub says_hold : n < 65536 → outcome_of n ≡ hold n
  unfolding outcome_of
  says_hold h = rw (ne_eqb n bad_number other, lt-leb 65536 n h)

-- ---- the number of a decision

-- a rule's number has two bytes
abbrev pub is_narrow : Rule → Bool
is_narrow r = ltb r.number 65536

says_decision : (a : Action) (n : ℕ) → n < 65536 → outcome_of (decision_number (Ok (record { action = a; rule = n }))) ≡ outcome_by (Ok (record { action = a; rule = n }))
says_decision action.Pass n h =
    let e : 65536 + n - 65536 ≡ n = omega arith in
    says_pass (65536 + n) (λ z. omega (arith, h, z)) (omega arith) ∙ ap pass e
says_decision action.Hold n h =
    let e : 0 + n ≡ n = omega arith in
    says_hold (0 + n) (λ z. omega (arith, h, z)) (omega (arith, h)) ∙ ap hold e

module _ (lim : Limits) where
  says_decided : (k : PacketRecord) (rs : List Rule) → all? is_narrow rs ≡ true
      → outcome_of (record_number lim rs k) ≡ outcome_by (decided lim k.packet k.decoded k.direction k.fields rs)
  unfolding record_number decided all?
  says_decided k [] t = says_decision action.Hold 0 (omega arith)
  says_decided k (r ∷ rs) t =
      by_cases (decides lim k.packet k.decoded k.direction k.fields r)
      (λ y. rw y (says_decision r.action r.number (ltb-true r.number 65536 (both_left (is_narrow r) (all? is_narrow rs) t))))
      (λ n. rw n (says_decided k rs (both_right (is_narrow r) (all? is_narrow rs) t)))

  -- the number of a line
  pub says_line : (rs : List Rule) → all? is_narrow rs ≡ true → (l : List ℕ) → outcome_of (line_number lim rs l) ≡ outcome lim rs l
  unfolding line_number outcome
  says_line rs t l = by_cases (is_trace_line l) (λ y. rw y (says_decided (trace_record l) rs t)) (λ n. rw n (says_bad bad_number refl))
