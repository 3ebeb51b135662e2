-- An answer with its number has at most 47 bytes, and what comes after the last byte of a trace at most 116: so a feed into so much room always takes some
-- of its input, and the end of a run always has room. Rules' numbers have two bytes.
use Rattle.std.specs.Prelude.{Ok}
use mathlib.Core.Path.{◌≡◌}
use mathlib.Core.Bool.{true}
use mathlib.Core.List.{List, [], ◌∷◌, ◌++◌, map}
use Prim.Native.Nat.{ℕ, ◌≤◌, ◌<◌}
use native.Mathlib.Omega.{arith}
use lib.Dec.{ltb}
use lib.ListN.{length, length-append}
use borrow.Author.Tests.{ltb-true}
use Rattle.forms.specs.Bytes.{text}
use Rattle.forms.proofs.Bools.{by_cases, both_left, both_right}
use Rattle.definitions.specs.declared.books.Action.{Action}
use Rattle.definitions.specs.declared.books.Action.TheVariants as action
use Rattle.definitions.specs.Limits.{Limits}
use Rattle.definitions.specs.Lists.{all?}
use Rattle.definitions.specs.Canonical.{decimal}
use Rattle.definitions.specs.Books.{Rule}
use Rattle.definitions.specs.Decisions.{decides, decided}
use Rattle.definitions.specs.Blocks.{PacketRecord}
use Rattle.laws.proofs.Digits.{decimal_most}
use Rattle.line_stream.specs.declared.Begun.{Begun}
use Rattle.line_stream.specs.declared.Fed.{Fed}
use Rattle.line_stream.specs.Stream.{max_line_number, next_number, line_answer, last_line, Feeds}
use Rattle.line_stream.specs.Ended.{last_lines}
use Rattle.line_stream.proofs.Running.{goes_on_lem}
use Rattle.replay_laws.specs.Traces.{is_trace_line, trace_record}
use Rattle.replay_laws.specs.Replays.{Outcome, pass, hold, bad, outcome_by, outcome_text, outcome, replay_answer}
use Rattle.replay_totals.specs.declared.Totals.{Totals}
use Rattle.replay_totals.specs.Totals.{counted, counted_all, total_text}
use Rattle.replay_totals.proofs.Outcomes.{is_narrow}
use Rattle.replay_lines.specs.Feeding.{last_output}

decision_most : (a : Action) (n : ℕ) → n < 65536 → length (outcome_text (outcome_by (Ok (record { action = a; rule = n })))) ≤ 25
decision_most action.Pass n h = omega (arith, length-append (text "pass\t") (decimal n), decimal_most n (omega (arith, h)))
decision_most action.Hold n h = omega (arith, length-append (text "hold\t") (decimal n), decimal_most n (omega (arith, h)))

-- ---- the totals

-- numbers of 64 bits, which they stay
pub record Within (t : Totals) : Type 0 where
  pub passes : t.passes ≤ max_line_number
  pub holds : t.holds ≤ max_line_number
  pub bad : t.bad ≤ max_line_number

next_within : (n : ℕ) → n ≤ max_line_number → next_number n ≤ max_line_number
next_within n h = by_cases (ltb n max_line_number) (λ t. rw t (omega (arith, ltb-true n max_line_number t))) (λ f. rw f h)

within_one : (t : Totals) (o : Outcome) → Within t → Within (counted t o)
within_one t (pass n) w = record { passes = next_within t.passes w.passes; holds = w.holds; bad = w.bad }
within_one t (hold n) w = record { passes = w.passes; holds = next_within t.holds w.holds; bad = w.bad }
within_one t bad w = record { passes = w.passes; holds = w.holds; bad = next_within t.bad w.bad }

within_all : (t : Totals) (os : List Outcome) → Within t → Within (counted_all t os)
unfolding counted_all
within_all t [] w = w
within_all t (o ∷ os) w = within_all (counted t o) os (within_one t o w)

total_most : (t : Totals) → Within t → length (total_text t) ≤ 69
total_most t w =
    let p = decimal t.passes in
    let h = decimal t.holds in
    let b = decimal t.bad in
    let ends = b ++ text "\n" in
    let held = h ++ (text "\t" ++ ends) in
    omega (
      arith,
      length-append (text "total\t") (p ++ (text "\t" ++ held)),
      length-append p (text "\t" ++ held),
      length-append h (text "\t" ++ ends),
      length-append b (text "\n"),
      decimal_most t.passes (omega (arith, w.passes)),
      decimal_most t.holds (omega (arith, w.holds)),
      decimal_most t.bad (omega (arith, w.bad)),
    )

-- ---- an answer

module _ (lim : Limits) where
  decided_most : (k : PacketRecord) (rs : List Rule) → all? is_narrow rs ≡ true
      → length (outcome_text (outcome_by (decided lim k.packet k.decoded k.direction k.fields rs))) ≤ 25
  unfolding decided all?
  decided_most k [] t = decision_most action.Hold 0 (omega arith)
  decided_most k (r ∷ rs) t =
      by_cases (decides lim k.packet k.decoded k.direction k.fields r)
      (λ y. rw y (decision_most r.action r.number (ltb-true r.number 65536 (both_left (is_narrow r) (all? is_narrow rs) t))))
      (λ n. rw n (decided_most k rs (both_right (is_narrow r) (all? is_narrow rs) t)))

  module _ (rs : List Rule) (narrow : all? is_narrow rs ≡ true) where
    said_most : (s : List ℕ) → length (replay_answer lim rs s) ≤ 25
    unfolding replay_answer outcome
    said_most s = by_cases (is_trace_line s) (λ y. rw y (decided_most (trace_record s) rs narrow)) (λ n. rw n (omega arith))

    -- a line number of 20 digits, tab, `pass`, tab, rule, LF
    pub answer_most : (n : ℕ) (s : List ℕ) → n ≤ max_line_number → length (line_answer (replay_answer lim rs) n s) ≤ 47
    answer_most n s h =
        let said = replay_answer lim rs s in
        omega (arith, length-append (decimal n) (9 ∷ (said ++ text "\n")), length-append said (text "\n"), decimal_most n (omega (arith, h)), said_most s)

    pub always_takes : {input line out line' out' : List ℕ} {b : Begun} {r : Fed} → 47 ≤ length out → b.number ≤ max_line_number → 0 < length input
        → Feeds (replay_answer lim rs) input line out b line' out' r → 0 < r.taken
    always_takes room counts some f = goes_on_lem (replay_answer lim rs) 47 answer_most room (omega arith) counts some f

    -- ---- after the last byte

    last_most : (n : ℕ) (s : List ℕ) → n ≤ max_line_number → length (last_line (replay_answer lim rs) n s) ≤ 47
    last_most n [] h = omega arith
    last_most n (b ∷ s) h = answer_most n (b ∷ s) h

    -- the answer to a last line, `total`, three numbers of 20 digits, tabs and LF
    pub end_most : (n : ℕ) (s : List ℕ) (t : Totals) → n ≤ max_line_number → Within t → length (last_output lim rs n s t) ≤ 116
    unfolding last_output
    end_most n s t h w =
        let c = counted_all t (map (outcome lim rs) (last_lines s)) in
        omega (
          arith,
          length-append (last_line (replay_answer lim rs) n s) (total_text c),
          last_most n s h,
          total_most c (within_all t (map (outcome lim rs) (last_lines s)) w),
        )
