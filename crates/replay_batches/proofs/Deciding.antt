-- THE NUMBERS OF LINES: the block of their records is read back as what the good ones say, so these get what is decided for them, in their order, and a bad
-- line its own number (`numbered_lines`).
use mathlib.Core.Path.{◌≡◌, refl, ap, ◌∙◌}
use mathlib.Core.Bool.{Bool}
use mathlib.Core.List.{List, [], ◌∷◌, ◌++◌, map}
use Prim.Native.Nat.{ℕ, ◌-◌, ◌≤◌}
use native.Mathlib.Omega.{arith}
use lib.ListN.{length, take, drop}
use lib.Seq.{length-take-le}
use Rattle.forms.proofs.Bools.{by_cases}
use Rattle.definitions.specs.Limits.{Limits}
use Rattle.definitions.specs.Books.{Rule}
use Rattle.definitions.specs.Lists.{keep, count}
use Rattle.definitions.specs.Blocks.{record_number, block_numbers}
use Rattle.replay_laws.specs.Traces.{is_trace_line, trace_record}
use Rattle.replay_totals.specs.OutcomeNumbers.{line_number}
use Rattle.replay_records.specs.RecordBytes.{lines_bytes}
use Rattle.replay_records.proofs.Records.{records_read}
use Rattle.replay_batches.specs.declared.Gathered.{Gathered}
use Rattle.replay_batches.specs.Numbers.{line_mark, numbered}
use Rattle.replay_batches.specs.Batches.{Gathers, Decides}

count_le : {A : Type 0} (f : A → Bool) (l : List A) → count f l ≤ length l
unfolding keep
count_le f [] = omega arith
count_le f (x ∷ l) = by_cases (f x) (λ t. rw t (omega (arith, count_le f l))) (λ n. rw n (omega (arith, count_le f l)))

module _ (lim : Limits) (rs : List Rule) where
  numbered_lines : (ls : List (List ℕ)) (rest : List ℕ)
      → numbered (map line_mark ls) (map (record_number lim rs) (map trace_record (keep is_trace_line ls)) ++ rest) ≡ map (line_number lim rs) ls
  unfolding numbered keep line_number
  numbered_lines [] rest = refl
  numbered_lines (l ∷ ls) rest = by_cases (is_trace_line l) (λ t. rw (t, numbered_lines ls rest)) (λ f. rw (f, numbered_lines ls rest))

  -- as the block of their records is decided
  decided_lines : (ls : List (List ℕ)) (out : List ℕ) → length ls ≤ length out
      → numbered (map line_mark ls) (block_numbers lim rs (lines_bytes ls) out) ≡ map (line_number lim rs) ls
  unfolding block_numbers
  decided_lines ls out h = rw (records_read (length out) ls (omega (arith, h, count_le is_trace_line ls))) (numbered_lines ls _)

  -- n are the numbers of the block, and after those of the lines
  pub gathered_decides : (out : List ℕ) {ls : List (List ℕ)} {block marks n after : List ℕ} {g : Gathered} → Gathers ls block marks g
      → n ≡ block_numbers lim rs (take (g.bytes - 0) (drop 0 block)) out → g.lines ≤ length out
      → take g.lines after ≡ numbered (take g.lines marks) n → g.lines ≤ length after → Decides lim rs ls after g.lines
  gathered_decides out {ls = ls} {block = block} {g = g} w e room is fits =
      let some = take g.lines ls in
      let all : g.bytes - 0 ≡ g.bytes = omega arith in
      let records : take (g.bytes - 0) (drop 0 block) ≡ lines_bytes some = ap (λ (k : ℕ). take k block) all ∙ w.records in
      record {
        some = w.some;
        few = w.few;
        room = fits;
        numbers = is ∙ rw (w.noted, e, records) (decided_lines some out (omega (arith, length-take-le g.lines ls w.few, room)));
      }
