-- THE TOTALS IN THE LOOP of a feed: they have counted the lines that end in what was taken. The loop begins where the first line is taken already and none has
-- ended; each turn ends one, and counts it, unless its answer has no room.
use mathlib.Core.Path.{◌≡◌, sym, ap, ◌∙◌}
use mathlib.Core.Bool.{true, false}
use mathlib.Core.List.{List, [], ◌∷◌, map, map-append}
use Prim.Native.Nat.{ℕ, ◌+◌, ◌≤◌, ◌<◌}
use native.Mathlib.Omega.{arith}
use lib.ListN.{length, take}
use Rattle.forms.proofs.Bools.{by_cases}
use Rattle.definitions.specs.Limits.{Limits}
use Rattle.definitions.specs.Books.{Rule}
use Rattle.line_stream.specs.declared.Begun.{Begun}
use Rattle.line_stream.specs.declared.Fed.{Fed}
use Rattle.line_stream.specs.declared.Feeding.{Feeding}
use Rattle.line_stream.specs.Stream.{State, after, has_room}
use Rattle.line_stream.specs.Steps.{lf_from, Takes, Nexts}
use Rattle.line_stream.specs.Whole.{StandsFor}
use Rattle.line_stream.specs.Ended.{ended_lines, line_left}
use Rattle.line_stream.proofs.States.{begun_line}
use Rattle.line_stream.proofs.Whole.{after_clipped}
use Rattle.line_stream.proofs.Ended.{ended_up_to, ended_lf, left_begun}
use Rattle.line_stream.proofs.Loop as loop
use Rattle.replay_laws.specs.Traces.{max_trace_line}
use Rattle.replay_laws.specs.Replays.{Outcome, outcome, replay_answer}
use Rattle.replay_totals.specs.declared.Totals.{Totals}
use Rattle.replay_totals.specs.Totals.{counted, counted_all}
use Rattle.replay_totals.proofs.Counting.{counted_one}
use Rattle.replay_lines.specs.Feeding.{Counts}
use Rattle.replay_lines.proofs.Kept.{kept_outcome, kept_answer}

module _ (lim : Limits) (rs : List Rule) where
  -- the outcomes of the lines that end in the first i bytes of the trace, where s was read before
  abbrev outcomes : List ℕ → List ℕ → ℕ → List Outcome
  outcomes s input i = map (outcome lim rs) (ended_lines s (take i input))

  -- from where the loop begins on
  pub record Counted (input line₁ out₁ : List ℕ) (t₁ : Feeding) (sum₁ : Totals) (t : Feeding) (sum : Totals) : Type 0 where
    since : {line₀ out₀ : List ℕ} {b : Begun} → Takes input 0 line₀ line₁ out₀ out₁ 0 b t₁ → max_trace_line < length line₀
        → (s : List ℕ) → StandsFor line₀ b.len s → sum ≡ counted_all sum₁ (outcomes s input t.fed.taken)

  pub counted_begins : {input line out : List ℕ} {t : Feeding} {sum : Totals} → Counted input line out t sum t sum
  unfolding counted_all ended_lines
  counted_begins {input = input} {sum = sum} = record {
    since = λ k roomy s h.
        sym (ap (λ (f : Feeding). counted_all sum (outcomes s input f.fed.taken)) k.is
        ∙ ap (λ (ls : List (List ℕ)). counted_all sum (map (outcome lim rs) ls)) (ended_up_to s input 0));
  }

  -- the line that waits, as the whole line that it stands for
  module _
      {input line₁ out₁ line out : List ℕ} {t₁ t : Feeding} (l : loop.Loop (replay_answer lim rs) input line₁ out₁ t₁ line out t)
      (waits : t.waits ≡ true) {line₀ out₀ : List ℕ} {b : Begun} (k : Takes input 0 line₀ line₁ out₀ out₁ 0 b t₁)
      (roomy : max_trace_line < length line₀) (s : List ℕ) (h : StandsFor line₀ b.len s) where
    abbrev answer : List ℕ → List ℕ
    answer = replay_answer lim rs

    waiting_is : take t.fed.begun.len line ≡ take (length line₀) (line_left s (take t.fed.taken input))
    waiting_is =
        let front = take t.fed.taken input in
        (loop.loop-line answer l k waits).0
        ∙ ap (λ (x : List ℕ). (after answer (length line₀) (begun_line b.number [] x) front).begun) h
        ∙ ap (λ (x : State). x.begun) (after_clipped answer max_trace_line (kept_answer lim rs) (length line₀) roomy (begun_line b.number [] s) front)
        ∙ ap (take (length line₀)) (left_begun answer (begun_line b.number [] s) front)

    waiting_outcome : outcome lim rs (take t.fed.begun.len line) ≡ outcome lim rs (line_left s (take t.fed.taken input))
    waiting_outcome = ap (outcome lim rs) waiting_is ∙ kept_outcome lim rs (length line₀) (line_left s (take t.fed.taken input)) roomy

    -- with it counted
    counted_with : (sum : Totals) → counted_all sum (outcomes s input (t.fed.taken + 1))
        ≡ counted (counted_all sum (outcomes s input t.fed.taken)) (outcome lim rs (take t.fed.begun.len line))
    counted_with sum =
        let i = t.fed.taken in
        ap (λ (ls : List (List ℕ)). counted_all sum (map (outcome lim rs) ls)) (ended_lf s input i (loop.loop-lf answer l k waits) (loop.loop-line answer l k waits).1)
        ∙ ap (counted_all sum) (map-append (outcome lim rs) (ended_lines s (take i input)) (line_left s (take i input) ∷ []))
        ∙ counted_one sum (outcomes s input i) (outcome lim rs (line_left s (take i input)))
        ∙ ap (counted (counted_all sum (outcomes s input i))) (sym waiting_outcome)

  -- what is taken grows exactly if the answer had room
  module _ {input line line' o out' : List ℕ} {fed : Fed} {r : Feeding} {j : ℕ} (n : Nexts input line line' o out' fed j r) where
    room_taken : has_room n.place (length n.ended) ≡ true → r.fed.taken ≡ lf_from input (fed.taken + 1)
    room_taken y = ap (λ (x : Feeding). x.fed.taken) (n.room y).is

    full_taken : has_room n.place (length n.ended) ≡ false → r.fed.taken ≡ fed.taken
    full_taken f = ap (λ (x : Feeding). x.fed.taken) (n.full f).2

  -- ONE TURN: the line is counted where it was answered, and only there
  pub counted_goes : {input line₁ out₁ line out o line' out' : List ℕ} {t₁ t r : Feeding} {sum₁ sum sum' : Totals} {j : ℕ}
      → loop.Loop (replay_answer lim rs) input line₁ out₁ t₁ line out t → t.waits ≡ true → Nexts input line line' o out' t.fed j r
      → Counted input line₁ out₁ t₁ sum₁ t sum
      → (t.fed.taken < r.fed.taken → sum' ≡ counted sum (outcome lim rs (take t.fed.begun.len line)))
      → (r.fed.taken ≤ t.fed.taken → sum' ≡ sum)
      → Counted input line₁ out₁ t₁ sum₁ r sum'
  counted_goes {input = input} {line = line} {t = t} {r = r} {sum₁ = sum₁} {sum = sum} l w n c one none = record {
    since = λ k roomy s h.
        by_cases (has_room n.place (length n.ended))
        (λ y.
        let i = t.fed.taken in
        let is : r.fed.taken ≡ lf_from input (i + 1) = room_taken n y in
        one (omega (arith, is))
        ∙ ap (λ (x : Totals). counted x (outcome lim rs (take t.fed.begun.len line))) (c.since k roomy s h)
        ∙ sym (counted_with l w k roomy s h sum₁)
        ∙ ap (λ (ls : List (List ℕ)). counted_all sum₁ (map (outcome lim rs) ls)) (sym (ended_up_to s input (i + 1)))
        ∙ ap (λ (m : ℕ). counted_all sum₁ (outcomes s input m)) (sym is))
        (λ f.
        let is : r.fed.taken ≡ t.fed.taken = full_taken n f in
        none (omega (arith, is)) ∙ c.since k roomy s h ∙ ap (λ (m : ℕ). counted_all sum₁ (outcomes s input m)) (sym is));
  }

  -- where the loop ends
  pub counted_ends : {input line₁ out₁ line₀ out₀ : List ℕ} {t₁ t : Feeding} {sum₁ sum : Totals} {b : Begun} → Counted input line₁ out₁ t₁ sum₁ t sum
      → Takes input 0 line₀ line₁ out₀ out₁ 0 b t₁ → max_trace_line < length line₀ → Counts lim rs input line₀ b sum₁ t.fed.taken sum
  counted_ends c k roomy = record { whole = λ s h. c.since k roomy s h }
