-- The loop that gathers lines (`Gathering`): the first ones of some lines are gathered, and it is known which are still to come. A line more is the next one:
-- its record stands after the others, and what is noted of it too (`one_more`). So it is for the first line (`gather_first`) and for each that ends in the
-- input (`gather_next`).
use mathlib.Core.Path.{◌≡◌, refl, sym, ap, ◌∙◌}
use mathlib.Core.Bool.{true, false}
use mathlib.Core.List.{List, [], ◌∷◌, ◌++◌, map, append_assoc, append-nil, map-append}
use Prim.Native.Nat.{ℕ, zero, suc, ◌+◌, ◌-◌, ◌≤◌, ◌<◌}
use native.Mathlib.Omega.{arith}
use lib.ListN.{length, take, drop, length-set}
use lib.Seq.{drop-nil, take-suc-set}
use Rattle.write_bytes.specs.Puts.{max_counted}
use Rattle.write_bytes.proofs.Putting.{same_length}
use Rattle.write_bytes.proofs.Whole.{most_of, puts_count, placed_whole}
use Rattle.line_stream.specs.Steps.{lf_from}
use Rattle.line_stream.specs.Ended.{ended_lines}
use Rattle.line_stream.proofs.Parts.{line_slice}
use Rattle.line_stream.proofs.Ended.{ended_next}
use Rattle.replay_records.specs.RecordBytes.{line_bytes, lines_bytes, max_record}
use Rattle.replay_records.proofs.Records.{line_most}
use Rattle.replay_laws.specs.Traces.{is_trace_line}
use Rattle.replay_totals.specs.OutcomeNumbers.{bad_number}
use Rattle.replay_batches.specs.declared.Gathered.{Gathered}
use Rattle.replay_batches.specs.Numbers.{line_mark}
use Rattle.replay_batches.specs.Batches.{Adds, Gathers}

-- ---- the next element of a list

record NextOne {A : Type 0} (ls : List A) (n : ℕ) (l : A) (rest : List A) : Type 0 where
  inside : suc n ≤ length ls
  front : take (suc n) ls ≡ take n ls ++ (l ∷ [])
  after : drop (suc n) ls ≡ rest

next_one : {A : Type 0} (ls : List A) (n : ℕ) (l : A) (rest : List A) → drop n ls ≡ l ∷ rest → NextOne ls n l rest
next_one [] n l rest e = absurd (let z : ⊥ = omega (arith, ap length (sym (drop-nil n) ∙ e)) in z)
next_one (x ∷ ls) zero l rest e = record { inside = omega arith; front = cc; after = cc }
next_one (x ∷ ls) (suc n) l rest e =
    let w = next_one ls n l rest e in
    record { inside = omega (arith, w.inside); front = ap (λ k. x ∷ k) w.front; after = w.after }

-- ---- lines gathered

-- what is kept of the first ones, and which are still to come
record Kept (ls : List (List ℕ)) (block marks : List ℕ) (g : Gathered) (coming : List (List ℕ)) : Type 0 where
  records : take g.bytes block ≡ lines_bytes (take g.lines ls)
  noted : take g.lines marks ≡ map line_mark (take g.lines ls)
  still : drop g.lines ls ≡ coming

-- at first none is
kept_none : (ls : List (List ℕ)) (block marks : List ℕ) → Kept ls block marks (record { lines = 0; bytes = 0 }) ls
unfolding lines_bytes
kept_none ls block marks = record { records = refl; noted = refl; still = refl }

pub record Gathering (ls : List (List ℕ)) (block marks : List ℕ) (g : Gathered) (coming : List (List ℕ)) : Type 0 where
  pub so_far : Gathers ls block marks g
  pub still : drop g.lines ls ≡ coming

-- ---- what is noted of a line

module _ (l : List ℕ) where
  pub good_mark : is_trace_line l ≡ true → line_mark l ≡ 0
  good_mark t = rw t

  pub bad_mark : is_trace_line l ≡ false → line_mark l ≡ bad_number
  bad_mark f = rw f

-- ---- one line more

lines_snoc : (ls : List (List ℕ)) (l : List ℕ) → lines_bytes (ls ++ (l ∷ [])) ≡ lines_bytes ls ++ line_bytes l
unfolding lines_bytes
lines_snoc [] l = append-nil (line_bytes l)
lines_snoc (k ∷ ls) l = ap (λ (s : List ℕ). line_bytes k ++ s) (lines_snoc ls l) ∙ sym (append_assoc (line_bytes k) (lines_bytes ls) (line_bytes l))

module _
    {ls : List (List ℕ)} {block block' marks marks' l : List ℕ} {g r : Gathered} {coming : List (List ℕ)}
    (w : Kept ls block marks g (l ∷ coming)) (a : Adds block block' marks marks' g l r)
    (room : g.lines < length marks) (within : g.bytes + max_record ≤ length block) (few : length block < max_counted)
  where
    bytes_are : r.bytes ≡ g.bytes + length (line_bytes l)
    bytes_are =
        ap (λ (x : List ℕ × ℕ). x.1) a.put.is
        ∙ puts_count block g.bytes (line_bytes l) (omega (arith, within, few))
        ∙ most_of (g.bytes + length (line_bytes l)) max_counted (omega (arith, within, few, line_most l))

    next : NextOne ls g.lines l coming
    next = next_one ls g.lines l coming w.still

    front_is : take r.lines ls ≡ take g.lines ls ++ (l ∷ [])
    front_is = ap (λ (n : ℕ). take n ls) a.more ∙ next.front

    placed : take r.bytes block' ≡ take g.bytes block ++ line_bytes l
    placed =
        placed_whole block g.bytes a.put (omega (arith, bytes_are, within, few, line_most l)) (omega (arith, bytes_are, within, line_most l))

    marked : take r.lines marks' ≡ take g.lines marks ++ (line_mark l ∷ [])
    marked = rw (a.more, a.noted) (take-suc-set marks g.lines (line_mark l) room)

    one_more : Gathering ls block' marks' r coming
    one_more =
        record {
          so_far = record {
            some = omega (arith, a.more);
            few = omega (arith, a.more, next.inside);
            room = omega (arith, a.more, room, ap length a.noted, length-set marks g.lines (line_mark l));
            within = omega (arith, bytes_are, within, line_most l, same_length a.put);
            records =
                placed
                ∙ ap (λ (s : List ℕ). s ++ line_bytes l) w.records
                ∙ sym (lines_snoc (take g.lines ls) l)
                ∙ ap lines_bytes (sym front_is);
            noted =
                marked
                ∙ ap (λ (s : List ℕ). s ++ (line_mark l ∷ [])) w.noted
                ∙ sym (map-append line_mark (take g.lines ls) (l ∷ []))
                ∙ ap (map line_mark) (sym front_is);
          };
          still = ap (λ (n : ℕ). drop n ls) a.more ∙ next.after;
        }

-- ---- the lines that end in some input

-- the first one, before them
pub gather_first : {first block block' marks marks' : List ℕ} {r : Gathered} (rest : List ℕ)
    → Adds block block' marks marks' (record { lines = 0; bytes = 0 }) first r → 0 < length marks → max_record ≤ length block → length block < max_counted
    → Gathering (first ∷ ended_lines [] rest) block' marks' r (ended_lines [] rest)
gather_first rest a room within few = one_more (kept_none _ _ _) a room (omega (arith, within)) few

module _ (rest : List ℕ) (at : ℕ) {end : ℕ} (is : end ≡ lf_from rest at) (h : end < length rest) where
  next_is : ended_lines [] (drop at rest) ≡ take (end - at) (drop at rest) ∷ ended_lines [] (drop (end + 1) rest)
  next_is = ended_next rest at (omega (arith, is, h)) ∙ rw (line_slice rest at is, is)

  pub gather_next : {ls : List (List ℕ)} {block block' marks marks' : List ℕ} {g r : Gathered} → Gathering ls block marks g (ended_lines [] (drop at rest))
      → Adds block block' marks marks' g (take (end - at) (drop at rest)) r → g.lines < length marks → g.bytes + max_record ≤ length block
      → length block < max_counted → Gathering ls block' marks' r (ended_lines [] (drop (end + 1) rest))
  gather_next w a room within few =
      one_more (record { records = w.so_far.records; noted = w.so_far.noted; still = w.still ∙ next_is }) a room within few
