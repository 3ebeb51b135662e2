-- The steps of a run over blocks of input; none where the run is over. Nothing here says what is read or written: a contract can't.
use Rattle.std.specs.Prelude.{◌≡◌, ℕ, ◌+◌, ◌-◌, ◌≤◌, ◌<◌, ◌&&◌, ◌||◌, List, [], Option, Some, None, ltb, length, take, drop, if◌then◌else◌}
use Rattle.line_stream.specs.declared.Fed.{Fed}
use Rattle.line_io.specs.declared.Step.{Step}

-- a run begins with line 1, and nothing read
abbrev pub begins : Step
begins = record { begun = record { number = 1; len = 0 }; from = 0; end = 0 }

-- the bytes of a block that are still to be fed
abbrev pub rest_of : List ℕ → Step → List ℕ
rest_of block s =
    if ltb (length block) s.end || ltb s.end s.from
    then []
    else take (s.end - s.from) (drop s.from block)

-- after what a feed took of them, from its line begun on
abbrev pub place_after : ℕ → ℕ → ℕ → ℕ
place_after from n end = if ltb from end && ltb n (end - from) then from + n else end

abbrev pub goes_on : Step → Fed → Step
goes_on s f = record { begun = f.begun; from = place_after s.from f.taken s.end; end = s.end }

-- a block is read where all of the one before is fed; else nothing happens to it
pub data Fills (block block' : List ℕ) (s : Step) (r : Option Step) : Type 0 where
  going : s.from < s.end → block' ≡ block → r ≡ Some s → Fills block block' s r
  failed : s.end ≤ s.from → r ≡ None → Fills block block' s r
  filled : (n : ℕ) → s.end ≤ s.from → n ≤ length block' → r ≡ Some (record { begun = s.begun; from = 0; end = n }) → Fills block block' s r

-- the answers of a feed are written, and the run goes on after what it took; or the run is over
pub data Writes (f : Fed) (s : Step) (r : Option Step) : Type 0 where
  stopped : r ≡ None → Writes f s r
  written : 0 < f.taken → r ≡ Some (goes_on s f) → Writes f s r
