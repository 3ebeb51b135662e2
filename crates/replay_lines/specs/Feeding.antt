-- What the steps of a replay promise beside what those of every program that answers lines do: the numbers that are decided ahead, and the totals.
use Rattle.std.specs.Prelude.{ℕ, ◌-◌, ◌≤◌, ◌≡◌, Bool, true, false, List, [], ◌++◌, map, length, take, drop, Result, Ok, Err}
use Rattle.definitions.specs.Limits.{Limits}
use Rattle.definitions.specs.Books.{Rule}
use Rattle.write_bytes.specs.Puts.{Puts}
use Rattle.line_stream.specs.declared.Begun.{Begun}
use Rattle.line_stream.specs.Stream.{last_line}
use Rattle.line_stream.specs.Whole.{StandsFor}
use Rattle.line_stream.specs.Ended.{ended_lines, last_lines}
use Rattle.replay_laws.specs.Replays.{outcome, replay_answer, refused_output}
use Rattle.replay_totals.specs.OutcomeNumbers.{line_number}
use Rattle.replay_lines.specs.declared.Ahead.{Ahead}
use Rattle.replay_totals.specs.declared.Totals.{Totals}
use Rattle.definitions.specs.declared.answers.BookRefusal.{BookRefusal}
use Rattle.replay_totals.specs.Totals.{counted_all, total_text}

-- ---- a book is opened

abbrev pub is_accepted : Result ℕ BookRefusal → Bool
is_accepted (Ok n) = true
is_accepted (Err e) = false

-- what is put then
abbrev pub opened_text : Result ℕ BookRefusal → List ℕ
opened_text (Ok n) = []
opened_text (Err e) = refused_output e.refusal e.line

module _ (lim : Limits) (rs : List Rule) where
  -- the numbers from one place to another are those of the next lines
  pub record Ready (ls : List (List ℕ)) (answers : List ℕ) (a : Ahead) : Type 0 where
    pub order : a.next ≤ a.count
    pub room : a.count ≤ length answers
    pub numbers : take (a.count - a.next) (drop a.next answers) ≡ map (line_number lim rs) (take (a.count - a.next) ls)

  -- FEEDING: whatever line the buffer stands for, the totals have counted the whole lines of it and of what was taken
  pub record Counts (input line : List ℕ) (b : Begun) (t : Totals) (taken : ℕ) (r : Totals) : Type 0 where
    pub whole : (s : List ℕ) → StandsFor line b.len s → r ≡ counted_all t (map (outcome lim rs) (ended_lines s (take taken input)))

  -- after the last byte: the answer to a line s that lacks its LF, if it has a byte, and the totals with it
  unfoldable pub last_output : ℕ → List ℕ → Totals → List ℕ
  last_output n s t = last_line (replay_answer lim rs) n s ++ total_text (counted_all t (map (outcome lim rs) (last_lines s)))

  -- THE LAST LINE: whatever line the buffer stands for, what is put is the answer to all of it, and the totals
  pub record LastWhole (line out : List ℕ) (b : Begun) (t : Totals) (out' : List ℕ) (r : ℕ) : Type 0 where
    pub whole : (s : List ℕ) → StandsFor line b.len s → Puts out 0 (last_output b.number s t) out' r
