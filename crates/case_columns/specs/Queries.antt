-- THE ASK of a line of cases: `all`, `first`, or an earlier placement such as `(2,9)` or `()`. In numbers `(` is 40, `)` 41, a comma 44.
use Rattle.std.specs.Prelude.{ℕ, Bool, ◌&&◌, ◌||◌, List, [], map, length, leb, if◌then◌else◌, Option, Some, None}
use Rattle.forms.specs.Bytes.{text}
use Rattle.definitions.specs.declared.packets.Placement.{Placement}
use Rattle.definitions.specs.declared.packets.Start.{Start}
use Rattle.definitions.specs.Limits.{max_patterns}
use Rattle.definitions.specs.Lists.{all?, none?, same_bytes}
use Rattle.definitions.specs.Numbers.{value_of, is_number}
use Rattle.definitions.specs.Starts.{start_at}
use Rattle.definitions.specs.Answers.{placement_of}
use Rattle.definitions.specs.Parts.{contains, part_before, part_after, parts}
use Rattle.case_columns.specs.declared.Query.{Query}
use Rattle.case_columns.specs.declared.Query.TheVariants.{All, First, Next}

-- the largest start
abbrev pub max_start : ℕ
max_start = 18446744073709551615

-- what stands between the first `(` and the first `)` after it
abbrev pub inside : List ℕ → List ℕ
inside l = part_before 41 (part_after 40 l)

-- `(` is the first byte and `)` the last
unfoldable pub is_enclosed : List ℕ → Bool
is_enclosed l = contains 40 l && (none? (part_before 40 l) && (contains 41 (part_after 40 l) && none? (part_after 41 (part_after 40 l))))

unfoldable pub are_starts : List ℕ → Bool
are_starts l = none? l || (all? (is_number max_start) (parts 44 l) && leb (length (parts 44 l)) max_patterns)

-- the start that digits name
abbrev pub start_of : List ℕ → Start
start_of l = start_at (value_of 10 0 l)

unfoldable pub starts_in : List ℕ → List Start
starts_in l = if none? l then [] else map start_of (parts 44 l)

unfoldable pub is_query : List ℕ → Bool
is_query l = same_bytes l (text "all") || (same_bytes l (text "first") || (is_enclosed l && are_starts (inside l)))

unfoldable pub query_of : List ℕ → Query
query_of l = if same_bytes l (text "all") then All else if same_bytes l (text "first") then First else Next (placement_of (starts_in (inside l)))

-- ---- the code's answers

unfoldable pub parsed_starts : List ℕ → Option Placement
parsed_starts l = if are_starts l then Some (placement_of (starts_in l)) else None

unfoldable pub parsed_next : List ℕ → Option Placement
parsed_next l = if is_enclosed l then parsed_starts (inside l) else None

unfoldable pub parsed_query : List ℕ → Option Query
parsed_query l = if is_query l then Some (query_of l) else None
