-- WHOLE LINES: the program's state where a line is kept whole, however long, and that those lines are answered.
use Rattle.std.specs.Prelude.{◌≡◌, ℕ, List, [], ◌∷◌, ◌++◌, eqb, length, take, if◌then◌else◌}
use Rattle.write_bytes.specs.Puts.{Puts}
use Rattle.line_stream.specs.declared.Begun.{Begun}
use Rattle.line_stream.specs.declared.Fed.{Fed}
use Rattle.line_stream.specs.Stream.{State, ended, last_line}

-- so many bytes of a buffer stand for a line: they are its first ones, all or as many as the buffer has room for
abbrev pub StandsFor : List ℕ → ℕ → List ℕ → Type 0
StandsFor buffer len s = take len buffer ≡ take (length buffer) s

module _ (answer : List ℕ → List ℕ) where
  -- after one byte more, where all of a line is kept
  abbrev pub whole_read : State → ℕ → State
  whole_read st b = if eqb b 10 then ended answer st else record { number = st.number; begun = st.begun ++ (b ∷ []); written = st.written }

  -- the state after some more input
  unfoldable pub whole_after : State → List ℕ → State
  whole_after st [] = st
  whole_after st (b ∷ l) = whole_after (whole_read st b) l

  -- the state after some input, where s was read of the line begun
  abbrev pub whole_from : Begun → List ℕ → List ℕ → State
  whole_from b s l = whole_after (record { number = b.number; begun = s; written = [] }) l

  -- FEEDING: whatever line the buffer stands for, the bytes put are the answers to the whole lines of it and of what is taken, and the buffer then stands
  -- for the whole line begun
  pub record WholeLines (input line : List ℕ) (b : Begun) (line' out' : List ℕ) (r : Fed) : Type 0 where
    pub whole : (s : List ℕ) → StandsFor line b.len s
        → (take r.put out' ≡ (whole_from b s (take r.taken input)).written)
        × (r.begun.number ≡ (whole_from b s (take r.taken input)).number)
        × StandsFor line' r.begun.len (whole_from b s (take r.taken input)).begun

  -- THE LAST LINE: whatever line the buffer stands for, what is put is the answer to all of it
  pub record WholeLast (line out : List ℕ) (b : Begun) (out' : List ℕ) (r : ℕ) : Type 0 where
    pub whole : (s : List ℕ) → StandsFor line b.len s → Puts out 0 (last_line answer b.number s) out' r
