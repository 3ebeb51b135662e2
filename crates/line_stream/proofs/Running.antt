-- A RUN WRITES THE PROGRAM'S OUTPUT, in whatever parts the input comes; and no turn of it takes nothing, where every answer has room.
use mathlib.Core.Path.{◌≡◌, refl, sym, ap, subst, ◌∙◌}
use mathlib.Core.Bool.{true}
use mathlib.Core.List.{List, [], ◌∷◌, ◌++◌, append_assoc, append-nil}
use Prim.Native.Nat.{ℕ, ◌+◌, ◌≤◌, ◌<◌, ◌^◌}
use native.Mathlib.Omega.{arith}
use native.Mathlib.Nat.{not-suc-le-zero}
use lib.Dec.{eqb}
use lib.ListN.{length, take, drop, take-append-drop}
use borrow.Author.Tests.{lt-ltb, le-leb}
use Rattle.forms.proofs.Bools.{by_cases}
use Rattle.definitions.specs.Lines.{output_over}
use Rattle.write_bytes.specs.Puts.{max_counted, Puts}
use Rattle.write_bytes.proofs.Putting.{same_length}
use Rattle.write_bytes.proofs.Whole.{placed_whole}
use Rattle.line_stream.specs.declared.Begun.{Begun}
use Rattle.line_stream.specs.declared.Fed.{Fed}
use Rattle.line_stream.specs.Stream.{max_line_number, State, line_state, has_room, line_answer, byte_read, after, last_line, output_of}
use Rattle.line_stream.specs.Stream.{answer_fits, taken_of, Feeds}
use Rattle.line_stream.specs.Runs.{Runs, last, part}
use Rattle.line_stream.specs.Ended.{ended_lines}
use Rattle.line_stream.proofs.Room.{room_counted, room_within}
use Rattle.line_stream.proofs.States.{after_append}
use Rattle.line_stream.proofs.Feeds.{taken_is, same_line, stands}
use Rattle.line_stream.proofs.Ended.{ended_few}
use Rattle.line_stream.proofs.Output.{whole_output}

module _ (answer : List ℕ → List ℕ) where
  -- ---- what was written before stays before

  abbrev prepend : List ℕ → State → State
  prepend w st = record { number = st.number; begun = st.begun; written = w ++ st.written }

  byte_prepend : (room : ℕ) (w : List ℕ) (st : State) (b : ℕ) → byte_read answer room (prepend w st) b ≡ prepend w (byte_read answer room st b)
  byte_prepend room w st b =
      by_cases (eqb b 10)
      (λ t.
      let put = line_answer answer st.number st.begun in
      rw t (ap (λ (l : List ℕ). record { number = (byte_read answer room st 10).number; begun = []; written = l }) (append_assoc w st.written put)))
      (λ f. rw f)

  after_prepend : (room : ℕ) (w : List ℕ) (st : State) (l : List ℕ) → after answer room (prepend w st) l ≡ prepend w (after answer room st l)
  unfolding after
  after_prepend room w st [] = refl
  after_prepend room w st (b ∷ l) = ap (λ (x : State). after answer room x l) (byte_prepend room w st b) ∙ after_prepend room w (byte_read answer room st b) l

  output_prepend : (w : List ℕ) (st : State) → output_of answer (prepend w st) ≡ w ++ output_of answer st
  output_prepend w st = append_assoc w st.written (last_line answer st.number st.begun)

  -- ---- what a run writes from anywhere on

  abbrev pub comes : List ℕ → List ℕ → Begun → List ℕ
  comes input line b = output_of answer (after answer (length line) (line_state b line []) input)

  last_comes : (line : List ℕ) (b : Begun) {out out' : List ℕ} {n : ℕ} → Puts out 0 (last_line answer b.number (take b.len line)) out' n
      → has_room n (length out') ≡ true → take n out' ≡ comes [] line b
  unfolding after
  last_comes line b {out = out} {out' = out'} {n = n} p t =
      placed_whole out 0 p (room_counted n (length out') t) (subst (λ (k : ℕ). n ≤ k) (same_length p) (room_within n (length out') t))

  pub part_comes : (block rest : List ℕ) {line out line' out' : List ℕ} {b : Begun} {r : Fed} → Feeds answer block line out b line' out' r
      → take r.put out' ++ comes (drop r.taken block ++ rest) line' r.begun ≡ comes (block ++ rest) line b
  part_comes block rest {line = line} {line' = line'} {out' = out'} {b = b} {r = r} f =
      let w = take r.put out' in
      let front = take r.taken block in
      let back = drop r.taken block ++ rest in
      let whole : front ++ back ≡ block ++ rest =
      sym (append_assoc front (drop r.taken block) rest) ∙ ap (λ (l : List ℕ). l ++ rest) (take-append-drop r.taken block) in
      sym (output_prepend w (after answer (length line') (line_state r.begun line' []) back))
      ∙ ap (output_of answer) (sym (after_prepend (length line') w (line_state r.begun line' []) back)
      ∙ ap (λ (l : List ℕ). after answer (length line') (line_state r.begun line' l) back) (append-nil w)
      ∙ ap (λ (n : ℕ). after answer n (line_state r.begun line' w) back) (same_line answer f)
      ∙ ap (λ (x : State). after answer (length line) x back) (stands answer f)
      ∙ sym (after_append answer (length line) (line_state b line []) front back)
      ∙ ap (after answer (length line) (line_state b line [])) whole)

  pub runs_on : {input line w : List ℕ} {b : Begun} → Runs answer input line b w → w ≡ comes input line b
  runs_on (last {line = line} {b = b} p t) = last_comes line b p t
  runs_on (part block rest {out' = out'} {r = r} f u) = ap (λ (l : List ℕ). take r.put out' ++ l) (runs_on u) ∙ part_comes block rest f

  -- ---- from the start on it is the program's output

  -- as long as 64 bits hold the number of each line
  pub runs_lines : (most : ℕ) → ((m : ℕ) (s : List ℕ) → most < m → answer (take m s) ≡ answer s)
      → {input line w : List ℕ} → most < length line → length (ended_lines [] input) + 1 < 2 ^ 64
      → Runs answer input line (record { number = 1; len = 0 }) w → w ≡ output_over answer input
  runs_lines most kept {input = input} {line = line} roomy few u = runs_on u ∙ sym (whole_output answer most (length line) kept roomy input few)

  pub runs_output : (most : ℕ) → ((m : ℕ) (s : List ℕ) → most < m → answer (take m s) ≡ answer s)
      → {input line w : List ℕ} → most < length line → length input + 1 < 2 ^ 64
      → Runs answer input line (record { number = 1; len = 0 }) w → w ≡ output_over answer input
  runs_output most kept {input = input} roomy few u = runs_lines most kept roomy (omega (arith, few, ended_few [] input)) u

  -- ---- each turn takes some of its input, where every answer has room

  has_room_lem : (n len : ℕ) → n < max_counted → n ≤ len → has_room n len ≡ true
  has_room_lem n len few fits = rw (lt-ltb n max_counted few, le-leb n len fits)

  some_taken : (room len : ℕ) (st : State) (l : List ℕ) → answer_fits answer st len ≡ true → 0 < length l → 0 < taken_of answer room len st l
  unfolding taken_of
  some_taken room len st [] y h = absurd (not-suc-le-zero h)
  some_taken room len st (b ∷ l) y h = by_cases (eqb b 10) (λ t. rw (t, y) (omega arith)) (λ f. rw f (omega arith))

  pub goes_on_lem : (k : ℕ) → ((n : ℕ) (s : List ℕ) → n ≤ max_line_number → length (line_answer answer n s) ≤ k)
      → {input line out line' out' : List ℕ} {b : Begun} {r : Fed} → k ≤ length out → k < max_counted → b.number ≤ max_line_number → 0 < length input
      → Feeds answer input line out b line' out' r → 0 < r.taken
  goes_on_lem k short {input = input} {line = line} {out = out} {b = b} fits few counts some f =
      let first = line_state b line [] in
      let n = length (line_answer answer b.number (take b.len line)) in
      let most : n ≤ k = short b.number (take b.len line) counts in
      let room : answer_fits answer first (length out) ≡ true = has_room_lem (0 + n) (length out) (omega (arith, most, few)) (omega (arith, most, fits)) in
      omega (arith, taken_is answer f, some_taken (length line) (length out) first input room some)
