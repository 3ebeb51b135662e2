-- What each step of feeding does, whatever it is given.
use Rattle.std.specs.Prelude.{◌≡◌, Bool, true, false, not, ℕ, suc, ◌+◌, ◌-◌, List, [], ◌++◌, eqb, ltb, length, take, drop, if◌then◌else◌}
use Rattle.std.proofs.lemmas.List.Edits.{sets}
use Rattle.forms.specs.Bytes.{text, run}
use Rattle.definitions.specs.Canonical.{decimal}
use Rattle.write_bytes.specs.Puts.{Puts}
use Rattle.write_bytes.specs.Clipped.{at_most}
use Rattle.line_stream.specs.declared.Begun.{Begun}
use Rattle.line_stream.specs.declared.Fed.{Fed}
use Rattle.line_stream.specs.declared.Feeding.{Feeding}
use Rattle.line_stream.specs.Stream.{next_number, has_room}

-- a byte that ends no line
abbrev pub in_line : ℕ → Bool
in_line b = not (eqb b 10)

-- the place of the first LF from a place on, or the end
abbrev pub lf_from : List ℕ → ℕ → ℕ
lf_from s from = from + run in_line (drop from s)

-- the bytes from a place on, up to there
abbrev pub line_from : List ℕ → ℕ → List ℕ
line_from s from = take (run in_line (drop from s)) (drop from s)

-- a part more after the first `len` bytes of a buffer; past its end none is kept
pub record Keeps (line line' : List ℕ) (len : ℕ) (part : List ℕ) (r : ℕ) : Type 0 where
  pub kept : line' ≡ sets line len part
  pub long : r ≡ at_most (len + length part) (length line)

-- what is put before an answer: the line's number and a tab, if a line waits
abbrev pub line_opening : Bool → ℕ → List ℕ
line_opening false n = []
line_opening true n = decimal n ++ text "\t"

-- A LINE IS TAKEN from a place on: its bytes are kept up to the next LF, or to the end; at an LF it waits for its answer
pub record Takes (input : List ℕ) (from : ℕ) (line line' out out' : List ℕ) (place : ℕ) (b : Begun) (r : Feeding) : Type 0 where
  pub len : ℕ
  pub next : ℕ
  pub keeps : Keeps line line' b.len (line_from input from) len
  pub opened : Puts out place (line_opening (ltb (lf_from input from) (length input)) b.number) out' next
  pub is : r ≡ record {
    fed = record { taken = lf_from input from; put = place; begun = record { number = b.number; len = len } };
    at = next;
    waits = ltb (lf_from input from) (length input);
  }

-- THE NEXT LINE, the answer being put up to a place: LF, then the line after it is taken; or there was no room, and nothing is counted of the answer
pub record Nexts (input line line' out out' : List ℕ) (fed : Fed) (at : ℕ) (r : Feeding) : Type 0 where
  pub ended : List ℕ
  pub place : ℕ
  pub puts : Puts out at (text "\n") ended place
  pub room : has_room place (length ended) ≡ true
      → Takes input (fed.taken + 1) line line' ended out' place (record { number = next_number fed.begun.number; len = 0 }) r
  pub full : has_room place (length ended) ≡ false
      → (line' ≡ line) × (out' ≡ ended) × (r ≡ record { fed = fed; at = fed.put; waits = false })

-- THE LAST LINE, which lacks its LF: it waits for its answer, if a byte of it is kept
pub record Lasts (line out out' : List ℕ) (b : Begun) (r : Feeding) : Type 0 where
  pub next : ℕ
  pub opened : Puts out 0 (line_opening (ltb 0 (length (take b.len line))) b.number) out' next
  pub is : r ≡ record { fed = record { taken = 0; put = 0; begun = b }; at = next; waits = ltb 0 (length (take b.len line)) }

-- the turns that are left at most: one for each byte still to come, and for the line that waits
abbrev pub lines_left : List ℕ → Feeding → ℕ
lines_left input t = if t.waits then suc (length input - t.fed.taken) else 0
