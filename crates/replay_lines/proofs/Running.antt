-- A RUN WRITES WHAT A REPLAY OF ITS BOOK AND TRACE IS, in whatever parts the trace comes, as long as 64 bits hold the numbers of its lines. From any turn
-- on, what is written is what every program that answers lines writes from there on, and the totals of all lines.
use Rattle.std.specs.Prelude.{Result, Ok, Err, ℕ}
use mathlib.Core.Path.{◌≡◌, refl, sym, ap, subst, ◌∙◌}
use mathlib.Core.Bool.{true, false, true≢false}
use mathlib.Core.List.{List, [], ◌∷◌, ◌++◌, map, map-append, append_assoc}
use Prim.Native.Nat.{ℕ, zero, suc, ◌+◌, ◌≤◌, ◌<◌, ◌^◌}
use native.Mathlib.Omega.{arith}
use lib.ListN.{length, take, drop, take-append-drop, length-append, length-map}
use lib.Seq.{take-nil}
use Rattle.definitions.specs.Limits.{document_limits}
use Rattle.definitions.specs.Lines.{line_texts, output_over}
use Rattle.definitions.specs.Books.{Rule, rules_of, judge}
use Rattle.definitions.specs.LoadedBooks.{rules_in, loaded}
use Rattle.book_laws.proofs.Loaded.{loaded_rules}
use Rattle.write_bytes.specs.Puts.{Puts}
use Rattle.write_bytes.proofs.Putting.{same_length}
use Rattle.write_bytes.proofs.Whole.{placed_whole}
use Rattle.line_stream.specs.declared.Begun.{Begun}
use Rattle.line_stream.specs.Stream.{after, has_room, last_line, Feeds}
use Rattle.line_stream.specs.Whole.{StandsFor}
use Rattle.line_stream.specs.Ended.{ended_lines, line_left, last_lines}
use Rattle.line_stream.proofs.Room.{room_counted, room_within}
use Rattle.line_stream.proofs.States.{begun_line}
use Rattle.line_stream.proofs.Feeds.{same_line}
use Rattle.line_stream.proofs.Whole.{feeds_whole, last_clipped}
use Rattle.line_stream.proofs.Ended.{texts_ended, texts_append, left_begun}
use Rattle.line_stream.proofs.Output.{whole_output}
use Rattle.line_stream.proofs.Running.{comes, part_comes}
use Rattle.replay_laws.specs.Traces.{max_trace_line}
use Rattle.replay_laws.specs.Replays.{Outcome, outcome, replay_answer, trace_output, output_if, replay_output}
use Rattle.replay_totals.specs.declared.Totals.{Totals}
use Rattle.replay_totals.specs.Totals.{no_totals, counted_all, total_text}
use Rattle.replay_totals.proofs.Counting.{counted_append, totals_are}
use Rattle.replay_lines.specs.declared.Replayed.{Replayed}
use Rattle.definitions.specs.declared.answers.BookRefusal.{BookRefusal}
use Rattle.replay_lines.specs.Feeding.{is_accepted, opened_text, Counts, last_output}
use Rattle.replay_lines.specs.Runs.{Replays, last, part, Run, refused, accepted}
use Rattle.replay_lines.proofs.Kept.{kept_outcome, kept_answer}

-- what was put from the start of a buffer and has room stands at its front
placed : {out l out' : List ℕ} {n : ℕ} → Puts out 0 l out' n → has_room n (length out') ≡ true → take n out' ≡ l
placed {out = out} {out' = out'} {n = n} p t =
    placed_whole out 0 p (room_counted n (length out') t) (subst (λ (k : ℕ). n ≤ k) (same_length p) (room_within n (length out') t))

module _ (rs : List Rule) where
  abbrev answer : List ℕ → List ℕ
  answer = replay_answer document_limits rs

  abbrev outcomes : List (List ℕ) → List Outcome
  outcomes ls = map (outcome document_limits rs) ls

  -- the line of totals, where t were counted before
  abbrev total : Totals → List (List ℕ) → List ℕ
  total t ls = total_text (counted_all t (outcomes ls))

  -- ---- the last line, as the whole line that is kept

  last_kept : (room : ℕ) → max_trace_line < room → (s : List ℕ) → outcomes (last_lines (take room s)) ≡ outcomes (last_lines s)
  last_kept room roomy [] = ap (λ (l : List ℕ). outcomes (last_lines l)) (take-nil room)
  last_kept room roomy (b ∷ s) = some-kept room roomy
    where
      some-kept : (m : ℕ) → max_trace_line < m → outcomes (last_lines (take m (b ∷ s))) ≡ outcomes (last_lines (b ∷ s))
      some-kept zero g = absurd (let z : ⊥ = omega (arith, g) in z)
      some-kept (suc m) g = ap (λ (o : Outcome). o ∷ []) (kept_outcome document_limits rs (suc m) (b ∷ s) g)

  pub last_whole : (n room : ℕ) → max_trace_line < room → (s : List ℕ) (t : Totals)
      → last_output document_limits rs n (take room s) t ≡ last_output document_limits rs n s t
  unfolding last_output
  last_whole n room roomy s t =
      ap (λ (l : List ℕ). l ++ total t (last_lines (take room s))) (last_clipped answer max_trace_line (kept_answer document_limits rs) room roomy n s)
      ∙ ap (λ (os : List Outcome). last_line answer n s ++ total_text (counted_all t os)) (last_kept room roomy s)

  -- ---- from anywhere on

  abbrev OnFrom : List ℕ → List ℕ → Begun → Totals → List ℕ → Type 0
  OnFrom input line b t w = max_trace_line < length line → (s : List ℕ) → StandsFor line b.len s
      → w ≡ comes answer input line b ++ total t (line_texts s input)

  last_on : (line : List ℕ) (b : Begun) (t : Totals) {out out' : List ℕ} {n : ℕ}
      → Puts out 0 (last_output document_limits rs b.number (take b.len line) t) out' n → has_room n (length out') ≡ true
      → OnFrom [] line b t (take n out')
  unfolding after last_output ended_lines line_left
  last_on line b t p y roomy s h =
      placed p y
      ∙ ap (λ (os : List Outcome). last_line answer b.number (take b.len line) ++ total_text (counted_all t os))
      (ap (λ (l : List ℕ). outcomes (last_lines l)) h ∙ last_kept (length line) roomy s ∙ ap outcomes (sym (texts_ended s [])))

  module _
      (block rest : List ℕ) {line out line' out' : List ℕ} {b : Begun} {t : Totals} {r : Replayed}
      (f : Feeds answer block line out b line' out' r.fed) (c : Counts document_limits rs block line b t r.fed.taken r.totals)
    where
      abbrev front : List ℕ
      front = take r.fed.taken block

      abbrev back : List ℕ
      back = drop r.fed.taken block ++ rest

      whole : front ++ back ≡ block ++ rest
      whole = sym (append_assoc front (drop r.fed.taken block) rest) ∙ ap (λ (l : List ℕ). l ++ rest) (take-append-drop r.fed.taken block)

      total-on : (s : List ℕ) → StandsFor line b.len s → total r.totals (line_texts (line_left s front) back) ≡ total t (line_texts s (block ++ rest))
      total-on s h =
          let ls = line_texts (line_left s front) back in
          ap (λ (x : Totals). total x ls) (c.whole s h)
          ∙ ap total_text (sym (counted_append t (outcomes (ended_lines s front)) (outcomes ls)))
          ∙ ap (λ (os : List Outcome). total_text (counted_all t os)) (sym (map-append (outcome document_limits rs) (ended_lines s front) ls))
          ∙ ap (total t) (sym (texts_append s front back))
          ∙ ap (λ (l : List ℕ). total t (line_texts s l)) whole

      left-stands : max_trace_line < length line → (s : List ℕ) → StandsFor line b.len s → StandsFor line' r.fed.begun.len (line_left s front)
      left-stands roomy s h =
          ((feeds_whole answer max_trace_line (kept_answer document_limits rs) roomy f).whole s h).2
          ∙ ap (take (length line')) (left_begun answer (begun_line b.number [] s) front)

      part-on : {w : List ℕ} → OnFrom back line' r.fed.begun r.totals w → OnFrom (block ++ rest) line b t (take r.fed.put out' ++ w)
      part-on u roomy s h =
          let put = take r.fed.put out' in
          let after-that = comes answer back line' r.fed.begun in
          let same = same_line answer f in
          ap (λ (l : List ℕ). put ++ l) (u (omega (arith, roomy, same)) (line_left s front) (left-stands roomy s h))
          ∙ ap (λ (l : List ℕ). put ++ (after-that ++ l)) (total-on s h)
          ∙ sym (append_assoc put after-that (total t (line_texts s (block ++ rest))))
          ∙ ap (λ (l : List ℕ). l ++ total t (line_texts s (block ++ rest))) (part_comes answer block rest f)

  replays_on : {input line w : List ℕ} {b : Begun} {t : Totals} → Replays rs input line b t w → OnFrom input line b t w
  replays_on (last {line = line} {b = b} {t = t} p y) = last_on line b t p y
  replays_on (part block rest f c u) = part-on block rest f c (replays_on u)

  -- ---- from the start on

  replays_output : {input line w : List ℕ} → max_trace_line < length line → length (line_texts [] input) + 1 < 2 ^ 64
      → Replays rs input line (record { number = 1; len = 0 }) no_totals w → w ≡ trace_output document_limits rs input
  unfolding trace_output
  replays_output {input = input} {line = line} roomy few u =
      let ls = line_texts [] input in
      let n = length (ended_lines [] input) in
      let all : length ls ≡ n + length (last_lines (line_left [] input)) =
      ap length (texts_ended [] input) ∙ length-append (ended_lines [] input) (last_lines (line_left [] input)) in
      let lines : length (outcomes ls) ≡ length ls = length-map ls (outcome document_limits rs) in
      replays_on u roomy [] (sym (take-nil (length line)))
      ∙ ap (λ (l : List ℕ). l ++ total no_totals ls)
      (sym (whole_output answer max_trace_line (length line) (kept_answer document_limits rs) roomy input (omega (arith, few, all))))
      ∙ ap (λ (l : List ℕ). output_over answer input ++ l) (totals_are (outcomes ls) (omega (arith, few, lines)))

-- ---- by the book's judgement

refused_is : (j : Result ℕ BookRefusal) (rs : List Rule) (input : List ℕ) → is_accepted j ≡ false → opened_text j ≡ output_if j document_limits rs input
refused_is (Ok n) rs input e = absurd (true≢false e)
refused_is (Err e') rs input e = refl

accepted_is : (j : Result ℕ BookRefusal) (rs : List Rule) (input : List ℕ) → is_accepted j ≡ true → trace_output document_limits rs input ≡ output_if j document_limits rs input
accepted_is (Ok n) rs input e = refl
accepted_is (Err e') rs input e = absurd (true≢false (sym e))

accepted_rules : (book : List ℕ) (j : Result ℕ BookRefusal) → judge document_limits book ≡ j → is_accepted j ≡ true
    → rules_in book (loaded document_limits book).rules ≡ rules_of book
accepted_rules book (Ok n) e t = loaded_rules document_limits book n e
accepted_rules book (Err e') e t = absurd (true≢false (sym t))

-- ALL THAT A RUN WRITES
pub run_writes : (book : List ℕ) {input w : List ℕ} → length (line_texts [] input) + 1 < 2 ^ 64 → Run book input w → w ≡ replay_output document_limits book input
unfolding replay_output
run_writes book {input = input} few (refused n p y) = placed p y ∙ refused_is (judge document_limits book) (rules_of book) input n
run_writes book {input = input} few (accepted y long u) =
    replays_output (rules_in book (loaded document_limits book).rules) (omega (arith, long)) few u
    ∙ ap (λ (rs : List Rule). trace_output document_limits rs input) (accepted_rules book (judge document_limits book) refl y)
    ∙ accepted_is (judge document_limits book) (rules_of book) input y
