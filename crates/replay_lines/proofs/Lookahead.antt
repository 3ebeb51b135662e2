-- WHAT WAS DECIDED AHEAD stays so as the loop goes on: the first number is that of the line that waits, and the others are those of the lines after it. What is
-- kept of the next line has the number of the whole.
use mathlib.Core.Path.{◌≡◌, refl, sym, ap, ◌∙◌}
use mathlib.Core.Bool.{true, true≢false}
use mathlib.Core.List.{List, [], ◌∷◌, map}
use Prim.Native.Nat.{ℕ, zero, suc, ◌+◌, ◌-◌, ◌<◌}
use native.Mathlib.Omega.{arith}
use native.Mathlib.Numerals.{add-one}
use lib.ListN.{length, get_or, take, drop}
use lib.Seq.{drop-cons, take-nil, sets}
use borrow.Author.Tests.{ltb-true}
use Rattle.forms.proofs.Bools.{by_cases}
use Rattle.definitions.specs.Limits.{Limits}
use Rattle.definitions.specs.Books.{Rule}
use Rattle.line_stream.specs.declared.Fed.{Fed}
use Rattle.line_stream.specs.declared.Feeding.{Feeding}
use Rattle.line_stream.specs.Stream.{State, after, has_room}
use Rattle.line_stream.specs.Steps.{lf_from, line_from, Takes, Nexts}
use Rattle.line_stream.specs.Ended.{ended_lines}
use Rattle.line_stream.proofs.Keeping.{kept_beyond}
use Rattle.line_stream.proofs.Parts.{line_inside}
use Rattle.line_stream.proofs.States.{begun_line, after_line}
use Rattle.line_stream.proofs.Whole.{after_clipped}
use Rattle.line_stream.proofs.Ended.{ended_next, left_begun, left_inside}
use Rattle.replay_laws.specs.Traces.{max_trace_line}
use Rattle.replay_laws.specs.Replays.{replay_answer}
use Rattle.replay_totals.specs.OutcomeNumbers.{bad_number, line_number}
use Rattle.replay_records.proofs.Lines.{long_line}
use Rattle.replay_batches.specs.Batches.{Decides}
use Rattle.replay_lines.specs.declared.Ahead.{Ahead}
use Rattle.replay_lines.specs.Feeding.{Ready}
use Rattle.replay_lines.proofs.Kept.{kept_answer}

-- the line that waits, and those that end after it
abbrev pub waiting_lines : List ℕ → Fed → List ℕ → List (List ℕ)
waiting_lines input f line = take f.begun.len line ∷ ended_lines [] (drop (f.taken + 1) input)

module _ (lim : Limits) (rs : List Rule) where
  abbrev number : List ℕ → ℕ
  number = line_number lim rs

  long_number : (s : List ℕ) → max_trace_line < length s → number s ≡ bad_number
  unfolding line_number
  long_number s h = rw (long_line s h)

  kept_number : (m : ℕ) (s : List ℕ) → max_trace_line < m → number (take m s) ≡ number s
  kept_number = kept_beyond number max_trace_line bad_number long_number

  -- ---- the first number, and the others

  module _ {answers x : List ℕ} {ls : List (List ℕ)} {a : Ahead} (r : Ready lim rs (x ∷ ls) answers a) (some : a.next < a.count) where
    abbrev others : ℕ
    others = a.count - suc a.next

    front : (get_or answers a.next 0 ∷ take others (drop (suc a.next) answers)) ≡ (number x ∷ map number (take others ls))
    front =
        let k : a.count - a.next ≡ suc others = omega (arith, some) in
        ap (take (suc others)) (sym (drop-cons answers a.next 0 (omega (arith, some, r.room))))
        ∙ ap (λ (m : ℕ). take m (drop a.next answers)) (sym k)
        ∙ r.numbers
        ∙ ap (λ (m : ℕ). map number (take m (x ∷ ls))) k

    pub first_number : get_or answers a.next 0 ≡ number x
    first_number = ap (λ (l : List ℕ). get_or l 0 0) front

    other_numbers : take others (drop (suc a.next) answers) ≡ map number (take others ls)
    other_numbers = ap (drop 1) front

    -- with another first line of the same number
    same_first : (n : ℕ) (y : List ℕ) (z : List ℕ) (l : List (List ℕ)) → number y ≡ number z → map number (take n (y ∷ l)) ≡ map number (take n (z ∷ l))
    same_first zero y z l e = refl
    same_first (suc n) y z l e = ap (λ (k : ℕ). k ∷ map number (take n l)) e

    pub ready_on : {y z : List ℕ} {l : List (List ℕ)} → ls ≡ (y ∷ l) → number z ≡ number y
        → Ready lim rs (z ∷ l) answers (record { next = a.next + 1; count = a.count })
    ready_on {y = y} {z = z} {l = l} e f = record {
      order = omega (arith, some);
      room = r.room;
      numbers =
          ap (λ (i : ℕ). take (a.count - i) (drop i answers)) (add-one a.next)
          ∙ other_numbers
          ∙ ap (λ (x : List (List ℕ)). map number (take others x)) e
          ∙ same_first others y z l (sym f)
          ∙ ap (λ (i : ℕ). map number (take (a.count - i) (z ∷ l))) (sym (add-one a.next));
    }

  pub ready_none : {ls : List (List ℕ)} {answers : List ℕ} → Ready lim rs ls answers (record { next = 0; count = 0 })
  ready_none = record { order = omega arith; room = omega arith; numbers = refl }

  -- ---- the next line of the loop

  -- what is kept of a line that is taken from a place on
  module _ {input line line' out out' : List ℕ} {i place m : ℕ} {r : Feeding} (k : Takes input i line line' out out' place (record { number = m; len = 0 }) r) where
    abbrev part : List ℕ
    part = line_from input i

    kept_is : max_trace_line < length line → take r.fed.begun.len line' ≡ take (length line) part
    kept_is roomy =
        let answer = replay_answer lim rs in
        let room = length line in
        let none : State = begun_line m [] [] in
        ap (λ (x : Feeding). take x.fed.begun.len line') k.is
        ∙ ap (take k.len) k.keeps.kept
        ∙ ap (λ (n : ℕ). take n (sets line 0 part)) k.keeps.long
        ∙ sym (ap (λ (x : State). x.begun) (after_line answer m [] line 0 part refl (line_inside input i)))
        ∙ ap (λ (x : List ℕ). (after answer room (begun_line m [] x) part).begun) (sym (take-nil room))
        ∙ ap (λ (x : State). x.begun) (after_clipped answer max_trace_line (kept_answer lim rs) room roomy none part)
        ∙ ap (take room) (left_begun answer none part ∙ left_inside [] part (line_inside input i))

  -- ONE TURN: what was decided ahead is so for the line that waits now
  pub ready_goes : {input line line' o out' answers : List ℕ} {fed : Fed} {r : Feeding} {a : Ahead} {j : ℕ} → max_trace_line < length line
      → Ready lim rs (waiting_lines input fed line) answers a → a.next < a.count → Nexts input line line' o out' fed j r → r.waits ≡ true
      → Ready lim rs (waiting_lines input r.fed line') answers (record { next = a.next + 1; count = a.count })
  ready_goes {input = input} {line = line} {fed = fed} {r = r} roomy s some n w =
      by_cases (has_room n.place (length n.ended))
      (λ y.
      let k = n.room y in
      let i = fed.taken + 1 in
      let end : r.fed.taken ≡ lf_from input i = ap (λ (x : Feeding). x.fed.taken) k.is in
      let inside : lf_from input i < length input = ltb-true (lf_from input i) (length input) (sym (ap (λ (x : Feeding). x.waits) k.is) ∙ w) in
      let lines = ended_next input i inside ∙ ap (λ (e : ℕ). line_from input i ∷ ended_lines [] (drop (e + 1) input)) (sym end) in
      ready_on s some lines (ap number (kept_is k roomy) ∙ kept_number (length line) (line_from input i) roomy))
      (λ f. absurd (true≢false (sym w ∙ ap (λ (x : Feeding). x.waits) (n.full f).2)))

  -- ---- lines that were decided

  module _ {answers : List ℕ} {ls : List (List ℕ)} {n : ℕ} (d : Decides lim rs ls answers n) where
    pub decided_ready : Ready lim rs ls answers (record { next = 0; count = n })
    decided_ready =
        let e : n - 0 ≡ n = omega arith in
        record {
          order = omega arith;
          room = d.room;
          numbers = ap (λ (m : ℕ). take m answers) e ∙ d.numbers ∙ ap (λ (m : ℕ). map number (take m ls)) (sym e);
        }

  -- of one line
  pub decided_one : {answers x : List ℕ} {ls : List (List ℕ)} {n : ℕ} → Decides lim rs (x ∷ ls) answers n → get_or answers 0 0 ≡ number x
  decided_one d = first_number (decided_ready d) d.some
