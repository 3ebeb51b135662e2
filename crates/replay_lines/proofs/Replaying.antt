-- THE LOOP OF A FEED, one turn: the number that was decided ahead is that of the line that waits, so what is put is the answer to it; the line is counted if
-- its answer had room; and the other numbers are those of the lines after it.
use Rattle.std.specs.Prelude.{if◌then◌else◌}
use mathlib.Core.Path.{◌≡◌, sym, ap, subst, ◌∙◌}
use mathlib.Core.Bool.{true}
use mathlib.Core.List.{List, [], ◌∷◌}
use Prim.Native.Nat.{ℕ, ◌+◌, ◌≤◌, ◌<◌}
use native.Mathlib.Omega.{arith}
use lib.Dec.{ltb}
use lib.ListN.{length, get_or, take, drop}
use borrow.Author.Tests.{lt-ltb, le-ltb}
use Rattle.forms.proofs.Bools.{by_cases}
use Rattle.definitions.specs.Limits.{document_limits}
use Rattle.definitions.specs.Lists.{all?}
use Rattle.definitions.specs.Books.{Rule}
use Rattle.write_bytes.specs.Puts.{Puts}
use Rattle.write_bytes.proofs.Putting.{told}
use Rattle.line_stream.specs.declared.Fed.{Fed}
use Rattle.line_stream.specs.declared.Feeding.{Feeding}
use Rattle.line_stream.specs.Stream.{has_room}
use Rattle.line_stream.specs.Steps.{Nexts}
use Rattle.line_stream.specs.Ended.{ended_lines}
use Rattle.line_stream.proofs.Keeping.{keeps_length}
use Rattle.line_stream.proofs.Loop as loop
use Rattle.replay_laws.specs.Traces.{max_trace_line}
use Rattle.replay_laws.specs.Replays.{Outcome, outcome_text, outcome, replay_answer}
use Rattle.replay_totals.specs.declared.Totals.{Totals}
use Rattle.replay_totals.specs.OutcomeNumbers.{outcome_of}
use Rattle.replay_totals.specs.Totals.{counted}
use Rattle.replay_totals.proofs.Outcomes.{is_narrow, says_line}
use Rattle.replay_lines.specs.declared.Ahead.{Ahead}
use Rattle.replay_lines.specs.Feeding.{Ready}
use Rattle.replay_lines.proofs.Counting.{Counted, counted_begins, counted_goes}
use Rattle.replay_lines.proofs.Lookahead.{waiting_lines, first_number, ready_none, ready_goes}

nexts_length : {input line line' o out' : List ℕ} {fed : Fed} {r : Feeding} {j : ℕ} → Nexts input line line' o out' fed j r → length line' ≡ length line
nexts_length n = by_cases (has_room n.place (length n.ended)) (λ y. keeps_length (n.room y).keeps) (λ f. ap length (n.full f).0)

counted_if : (i j : ℕ) (sum : Totals) (o : Outcome) {sum' : Totals} → sum' ≡ (if ltb i j then counted sum o else sum)
    → (i < j → sum' ≡ counted sum o) × (j ≤ i → sum' ≡ sum)
counted_if i j sum o e = (λ h. rw (lt-ltb i j h) at e, λ h. rw (le-ltb i j h) at e)

module _ (rs : List Rule) where
  abbrev answer : List ℕ → List ℕ
  answer = replay_answer document_limits rs

  pub record Replaying (input line₁ out₁ : List ℕ) (t₁ : Feeding) (sum₁ : Totals) (line out answers : List ℕ) (a : Ahead) (sum : Totals) (t : Feeding) : Type 0 where
    pub lines : loop.Loop answer input line₁ out₁ t₁ line out t
    pub totals : Counted document_limits rs input line₁ out₁ t₁ sum₁ t sum
    pub ready : t.waits ≡ true → Ready document_limits rs (waiting_lines input t.fed line) answers a
    pub long : length line ≡ max_trace_line + 1

  pub replaying_begins : {input line out answers : List ℕ} {t : Feeding} {sum : Totals} → length line ≡ max_trace_line + 1
      → Replaying input line out t sum line out answers (record { next = 0; count = 0 }) sum t
  replaying_begins long = record {
    lines = loop.loop_begins answer;
    totals = counted_begins document_limits rs;
    ready = λ w. ready_none document_limits rs;
    long = long;
  }

  module _ (narrow : all? is_narrow rs ≡ true) where
    -- what is put says what is said of the line
    pub told_answer : (n : ℕ) (s : List ℕ) {out o : List ℕ} {at j : ℕ} → outcome_of n ≡ outcome document_limits rs s → Puts out at (outcome_text (outcome_of n)) o j
        → Puts out at (answer s) o j
    unfolding replay_answer
    told_answer n s e p = told (ap outcome_text (sym e)) p

    pub replaying_goes : {input line₁ out₁ line out answers answers' s rest o line' out' : List ℕ} {t₁ t r : Feeding} {sum₁ sum sum' : Totals} {a b : Ahead} {n j : ℕ}
        → Replaying input line₁ out₁ t₁ sum₁ line out answers a sum t → t.waits ≡ true → s ≡ take t.fed.begun.len line → rest ≡ drop (t.fed.taken + 1) input
        → Ready document_limits rs (s ∷ ended_lines [] rest) answers' b → b.next < b.count → n ≡ get_or answers' b.next 0
        → Puts out t.at (outcome_text (outcome_of n)) o j → Nexts input line line' o out' t.fed j r
        → sum' ≡ (if ltb t.fed.taken r.fed.taken then counted sum (outcome_of n) else sum)
        → Replaying input line₁ out₁ t₁ sum₁ line' out' answers' (record { next = b.next + 1; count = b.count }) sum' r
    replaying_goes {input = input} {line = line} {answers' = answers'} {s = s} {t = t} {r = r} {sum = sum} {b = b} {n = n} i w e d ready some is p next c =
        let said : outcome_of n ≡ outcome document_limits rs s = ap outcome_of (is ∙ first_number document_limits rs ready some) ∙ says_line document_limits rs narrow s in
        let same : outcome_of n ≡ outcome document_limits rs (take t.fed.begun.len line) = said ∙ ap (outcome document_limits rs) e in
        let on = counted_if t.fed.taken r.fed.taken sum (outcome_of n) c in
        let waiting : Ready document_limits rs (waiting_lines input t.fed line) answers' b =
        subst (λ (x : List ℕ). Ready document_limits rs (x ∷ ended_lines [] (drop (t.fed.taken + 1) input)) answers' b) e
        (subst (λ (x : List ℕ). Ready document_limits rs (s ∷ ended_lines [] x) answers' b) d ready) in
        record {
          lines = loop.loop_goes answer i.lines w e (told_answer n s said p) next;
          totals =
              counted_goes document_limits rs i.lines w next i.totals
              (λ h. on.0 h ∙ ap (counted sum) same)
              (λ h. on.1 h);
          ready = λ v. ready_goes document_limits rs (omega (arith, i.long)) waiting some next v;
          long = nexts_length next ∙ i.long;
        }
