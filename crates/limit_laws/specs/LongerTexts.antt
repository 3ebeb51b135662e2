-- LONGER TEXTS: what stays as it was where the limits are raised. Document 02, T-11: "State this about the two limits once, over the limit." `Kept` is the statement,
-- over any limits a and b of which b allows more; proofs/LongerTexts.antt proves it, and gives it for the former limits and those of today.
use Rattle.std.specs.Prelude.{◌≡◌, true, ℕ, suc, ◌≤◌, ◌<◌, length, ltb, if◌then◌else◌, Result, Ok, Err}
use mathlib.Core.List.{List, [], ◌∷◌, Memᴰ as Mem}
use Rattle.definitions.specs.declared.table.Table.{Table}
use Rattle.definitions.specs.declared.packets.Direction.{Direction}
use Rattle.definitions.specs.declared.packets.FieldMap.{FieldMap}
use Rattle.definitions.specs.declared.packets.Placement.{Placement}
use Rattle.definitions.specs.declared.answers.Refusal.TheVariants as refusal
use Rattle.definitions.specs.declared.answers.Reading.{Reading}
use Rattle.definitions.specs.declared.answers.Query.{Query}
use Rattle.definitions.specs.declared.answers.BookRefusal.{BookRefusal}
use Rattle.definitions.specs.Limits.{Limits}
use Rattle.definitions.specs.Lists.{padded}
use Rattle.definitions.specs.Reading.{refused_reading, read}
use Rattle.definitions.specs.WellFormed.{Shaped, well_formed}
use Rattle.definitions.specs.Canonical.{canonical_text}
use Rattle.definitions.specs.Writing.{writes, buffer_after}
use Rattle.definitions.specs.Answers.{placements_of, verdict_answer, first_answer, next_answer}
use Rattle.definitions.specs.Queries.{answers}
use Rattle.definitions.specs.Lines.{line_of}
use Rattle.definitions.specs.Books.{Rule, rules_of, judge}
use Rattle.definitions.specs.Decisions.{decision}
use Rattle.definitions.specs.LoadedBooks.{loaded}
use Rattle.definitions.specs.Blocks.{block_numbers}

-- b allows at least what a allows; and a table of a has room for all pattern bytes that a text of a can say
pub record Raised (a b : Limits) : Type 0 where
  pub text : a.text ≤ b.text
  pub canonical : a.canonical ≤ b.canonical
  pub room : a.room ≤ b.room
  pub holds : a.text ≤ a.room

-- a table with zeros added to its pattern bytes, up to so many in all; everything else as it is
unfoldable pub widened : ℕ → Table → Table
widened room t =
    record {
      name = t.name;
      len = t.len;
      protocol = t.protocol;
      flow = t.flow;
      bytes = padded room 0 t.bytes;
      used = t.used;
      items = t.items;
      count = t.count;
    }

-- a reading with its table widened: number and place as they are
unfoldable pub widened_reading : ℕ → Reading → Reading
widened_reading room r = record { outcome = r.outcome; table = widened room r.table }

-- of rules that were all read: the judgement where a text has at most so many bytes. The first that has more is refused with 1 and its line
unfoldable pub judged_below : ℕ → ℕ → List Rule → Result ℕ BookRefusal
judged_below most n [] = Ok n
judged_below most n (r ∷ rs) =
    if ltb most (length r.source) then Err (record { refusal = refusal.TextLength; line = suc n })
    else judged_below most (suc n) rs

-- THE STATEMENT
pub record Kept (a b : Limits) : Type 0 where
  -- Reading. A text within a has the same number and place under b, and its table with zero room added; a longer one is 1 at 0 under a
  pub reads : (s : List ℕ) → length s ≤ a.text → read b s ≡ widened_reading b.room (read a s)
  pub refuses : (s : List ℕ) → a.text < length s → read a s ≡ refused_reading a.room refusal.TextLength 0
  -- Writing. A well-formed table of a is, widened, a well-formed table of b, with the same canonical text. A text within a's limit is written alike under both, into
  -- every buffer, or refused alike; a longer one is 21 under a
  pub shaped : (t : Table) → Shaped a.room t → Shaped b.room (widened b.room t)
  pub formed : (t : Table) → well_formed t ≡ true → well_formed (widened b.room t) ≡ true
  pub canonical : (t : Table) → well_formed t ≡ true → canonical_text (widened b.room t) ≡ canonical_text t
  pub writes_same : (t : Table) → well_formed t ≡ true → length (canonical_text t) ≤ a.canonical → (out : List ℕ)
      → (writes b (widened b.room t) out ≡ writes a t out) × (buffer_after b (widened b.room t) out ≡ buffer_after a t out)
  pub writes_not : (t : Table) → well_formed t ≡ true → a.canonical < length (canonical_text t) → (out : List ℕ)
      → (writes a t out ≡ Err refusal.CanonicalLength) × (buffer_after a t out ≡ out)
  -- The line program. A text within a has the same line under b, but where it was 21 under a
  pub lines_same : (s : List ℕ) → length s ≤ a.text
      → ((read a s).outcome ≡ Ok tt → length (canonical_text (read a s).table) ≤ a.canonical) → line_of b s ≡ line_of a s
  -- Matching. A well-formed table has, widened, the same list of placements, verdict, first and next, and the same answers to every list of queries
  pub placed : (t : Table) → well_formed t ≡ true → (p decoded : List ℕ) (dir : Direction) (m : FieldMap)
      → placements_of (widened b.room t) p decoded dir m ≡ placements_of t p decoded dir m
  pub judged : (t : Table) → well_formed t ≡ true → (p decoded : List ℕ) (dir : Direction) (m : FieldMap)
      → verdict_answer (widened b.room t) p decoded dir m ≡ verdict_answer t p decoded dir m
  pub first : (t : Table) → well_formed t ≡ true → (p decoded : List ℕ) (dir : Direction) (m : FieldMap)
      → first_answer (widened b.room t) p decoded dir m ≡ first_answer t p decoded dir m
  pub next : (t : Table) → well_formed t ≡ true → (p decoded : List ℕ) (dir : Direction) (m : FieldMap) (held : Placement)
      → next_answer (widened b.room t) p decoded dir m held ≡ next_answer t p decoded dir m held
  pub answered : (t : Table) → well_formed t ≡ true → (p decoded : List ℕ) (dir : Direction) (m : FieldMap) (held : Placement) (qs : List Query)
      → answers (widened b.room t) p decoded dir m held qs ≡ answers t p decoded dir m held qs
  -- Books. One that is accepted under a is accepted under b, with the same rules (which no limit enters, and neither what is kept of them when it is loaded), each
  -- with its table widened, and the same decisions
  pub accepts : (book : List ℕ) (n : ℕ) → judge a book ≡ Ok n → judge b book ≡ Ok n
  pub loads : (book : List ℕ) (n : ℕ) → judge a book ≡ Ok n → loaded b book ≡ loaded a book
  pub tables : (book : List ℕ) (n : ℕ) → judge a book ≡ Ok n → (r : Rule) → Mem r (rules_of book)
      → read b r.source ≡ widened_reading b.room (read a r.source)
  pub decides : (book : List ℕ) (n : ℕ) → judge a book ≡ Ok n → (p decoded : List ℕ) (dir : Direction) (m : FieldMap)
      → decision b p decoded dir m book ≡ decision a p decoded dir m book
  pub decides_blocks : (book : List ℕ) (n : ℕ) → judge a book ≡ Ok n → (block out : List ℕ)
      → block_numbers b (rules_of book) block out ≡ block_numbers a (rules_of book) block out
  -- A book that b accepts: under a, its first longer text is 1 with its line; with none, it is accepted
  pub formerly : (book : List ℕ) (n : ℕ) → judge b book ≡ Ok n → judge a book ≡ judged_below a.text 0 (rules_of book)
