-- A program's output as its input comes, part by part, for a program that answers each line. Section "The line program".
use Rattle.std.specs.Prelude.{◌≡◌, ℕ, suc, ◌+◌, Bool, not, ◌&&◌, List, [], ◌∷◌, ◌++◌, eqb, ltb, leb, length, take, set, if◌then◌else◌}
use Rattle.forms.specs.Bytes.{text}
use Rattle.definitions.specs.Canonical.{decimal}
use Rattle.write_bytes.specs.Puts.{max_counted, puts}
use Rattle.line_stream.specs.declared.Begun.{Begun}
use Rattle.line_stream.specs.declared.Fed.{Fed}

-- the largest number of a line that 64 bits hold
abbrev pub max_line_number : ℕ
max_line_number = 18446744073709551615

-- the next line's number; the largest stays
abbrev pub next_number : ℕ → ℕ
next_number n = if ltb n max_line_number then n + 1 else n

-- THE STATE of a program after some input: the number of the line begun, what is kept of that line, and all that was written
pub record State : Type 0 where
  pub number : ℕ
  pub begun : List ℕ
  pub written : List ℕ

abbrev pub start : State
start = record { number = 1; begun = []; written = [] }

-- the state that a line buffer and the line begun stand for, whatever they hold, where so much was written
abbrev pub line_state : Begun → List ℕ → List ℕ → State
line_state b line written = record { number = b.number; begun = take b.len line; written = written }

-- one byte more of the line begun; a buffer keeps the first bytes of a line, as many as it has room for
abbrev pub longer : ℕ → State → ℕ → State
longer room st b = record {
  number = st.number;
  begun = if ltb (length st.begun) room then st.begun ++ (b ∷ []) else st.begun;
  written = st.written;
}

-- so many bytes are counted, and a buffer of len bytes has room for them
abbrev pub has_room : ℕ → ℕ → Bool
has_room n len = ltb n max_counted && leb n len

-- THE LINE BUFFER after some bytes, where n are kept: each stands after the one before it, and after an LF from the front on; past the end none is kept
unfoldable pub line_after : List ℕ → ℕ → List ℕ → List ℕ
line_after line n [] = line
line_after line n (b ∷ l) = if eqb b 10 then line_after line 0 l else line_after (set line n b) (suc n) l

module _ (answer : List ℕ → List ℕ) where
  -- what is written for the line of a number: the number, tab, answer, LF
  abbrev pub line_answer : ℕ → List ℕ → List ℕ
  line_answer n s = decimal n ++ (text "\t" ++ (answer s ++ text "\n"))

  -- the line begun is ended by LF
  abbrev pub ended : State → State
  ended st = record { number = next_number st.number; begun = []; written = st.written ++ line_answer st.number st.begun }

  -- after one byte more, where `room` bytes of a line are kept
  abbrev pub byte_read : ℕ → State → ℕ → State
  byte_read room st b = if eqb b 10 then ended st else longer room st b

  -- the state after some more input
  unfoldable pub after : ℕ → State → List ℕ → State
  after room st [] = st
  after room st (b ∷ l) = after room (byte_read room st b) l

  -- at the end of the input: a last line may lack its LF
  abbrev pub last_line : ℕ → List ℕ → List ℕ
  last_line n [] = []
  last_line n (b ∷ s) = line_answer n (b ∷ s)

  abbrev pub output_of : State → List ℕ
  output_of st = st.written ++ last_line st.number st.begun

  -- the answer to the line begun has room in a buffer of len bytes, after what was written
  abbrev pub answer_fits : State → ℕ → Bool
  answer_fits st len = has_room (length st.written + length (line_answer st.number st.begun)) len

  -- how many bytes are taken from a state on, where `room` bytes of a line are kept and the output has len: all, or those before the first LF whose line's
  -- answer has no room
  unfoldable pub taken_of : ℕ → ℕ → State → List ℕ → ℕ
  taken_of room len st [] = 0
  taken_of room len st (b ∷ l) = if eqb b 10 && not (answer_fits st len) then 0 else suc (taken_of room len (byte_read room st b) l)

  module _ (input line out : List ℕ) (b : Begun) where
    -- so many bytes of the input are taken
    abbrev pub bytes_taken : ℕ
    bytes_taken = taken_of (length line) (length out) (line_state b line []) input

    -- the state after those
    abbrev pub fed_state : State
    fed_state = after (length line) (line_state b line []) (take bytes_taken input)

    -- the answer that had no room, if not all is taken
    abbrev pub answer_left : List ℕ
    answer_left = if ltb bytes_taken (length input) then line_answer fed_state.number fed_state.begun else []

    -- FEEDING, whatever is given: how much is taken and put, and the line begun then; and both buffers, to their last byte. In the output the answers come
    -- first, and after them the front of the one that had no room, which is not counted
    pub record Feeds (line' out' : List ℕ) (r : Fed) : Type 0 where
      pub fed : r ≡ record {
        taken = bytes_taken;
        put = length fed_state.written;
        begun = record { number = fed_state.number; len = length fed_state.begun };
      }
      pub kept : line' ≡ line_after line b.len (take bytes_taken input)
      pub put : out' ≡ (puts out 0 (fed_state.written ++ answer_left)).0
