-- When a placement meets a table, and the list of placements. Section "Meaning".
use Rattle.std.specs.Prelude.{◌≡◌, ℕ, zero, suc, ◌+◌, Bool, true, false, ◌&&◌, ◌||◌, List, [], ◌∷◌, ◌++◌, map, length, take, eqb, if◌then◌else◌, Option, None}
use Rattle.definitions.specs.declared.table.Pattern.{Pattern}
use Rattle.definitions.specs.declared.table.Item.{Item}
use Rattle.definitions.specs.declared.table.Address.{Address}
use Rattle.definitions.specs.declared.table.Slot.{Slot}
use Rattle.definitions.specs.declared.table.Table.{Table}
use Rattle.definitions.specs.declared.packets.Direction.{Direction}
use Rattle.definitions.specs.declared.packets.Start.{Start}
use Rattle.definitions.specs.declared.packets.Match.{Match}
use Rattle.definitions.specs.Lists.{none?, keep}
use Rattle.definitions.specs.Items.{Kind, unused, addressed, patterned, plain_test, kind_of, slots_of, after_item}
use Rattle.definitions.specs.Starts.{start_at, start_before, same_start}
use Rattle.definitions.specs.References.{last_after}
use Rattle.definitions.specs.Fields.{View}
use Rattle.definitions.specs.Tests.{flow_holds, test_holds}
use Rattle.definitions.specs.Windows.{lies}

-- ---- the order of placements

-- document 01's order: the first start that differs decides whether q comes after p
unfoldable pub lex_less : List Start → List Start → Bool
lex_less p [] = false
lex_less [] (s ∷ q) = true
lex_less (a ∷ p) (s ∷ q) = start_before a s || (same_start a s && lex_less p q)

-- ---- the items as the meaning takes them: a pattern to place with its bytes, a pattern that must lie nowhere, or a test

pub data Constraint : Type 0 where
  matched : Pattern → List ℕ → Constraint
  unmatched : Pattern → List ℕ → Constraint
  tested : Item → List Address → Constraint

-- a pattern with `!` is negated, any other positive
abbrev pub pattern_constraint : Pattern → List ℕ → Constraint
pattern_constraint p b = if p.negated then unmatched p b else matched p b

abbrev pub constraint_by : Kind → Item → List Address → List ℕ → Constraint
constraint_by unused it al b = tested it al
constraint_by (addressed a) it al b = tested it al
constraint_by (patterned p) it al b = pattern_constraint p (take p.len b)
constraint_by plain_test it al b = tested it al

-- the items of some slots; b are the pattern bytes from theirs on
unfoldable pub constraints : List Slot → List ℕ → List Constraint
constraints [] b = []
constraints (sl ∷ sls) b = constraint_by (kind_of sl.item) sl.item sl.addresses b ∷ constraints sls (after_item (kind_of sl.item) b)

unfoldable pub items_of : Table → List Constraint
items_of t = constraints (slots_of t) t.bytes

abbrev pub positive_in : Constraint → ℕ
positive_in (matched p b) = 1
positive_in (unmatched p b) = 0
positive_in (tested it al) = 0

-- how many positive patterns
unfoldable pub positives : List Constraint → ℕ
positives [] = 0
positives (w ∷ ws) = positive_in w + positives ws

-- ---- lists of starts

-- m numbers from a on
unfoldable pub up_from : ℕ → ℕ → List ℕ
up_from a zero = []
up_from a (suc m) = a ∷ up_from (suc a) m

-- the starts in a field of n bytes, its end too
abbrev pub starts_to : ℕ → List Start
starts_to n = map start_at (up_from 0 (suc n))

-- s before each list of f s, for each s of a list
unfoldable pub spread : (Start → List (List Start)) → List Start → List (List Start)
spread f [] = []
spread f (s ∷ ss) = map (λ (q : List Start). s ∷ q) (f s) ++ spread f ss

abbrev pub only_if : Bool → List (List Start) → List (List Start)
only_if b l = if b then l else []

-- ---- over a view of the packet

module _ (v : View) where
  -- the pattern lies at a start of its field; on an absent field it lies nowhere
  unfoldable pub lies_in : Pattern → List ℕ → Option Match → Start → Bool
  lies_in p b l s = v.present p.context && lies p b l (v.field p.context) s.at

  -- each start at which it lies, in rising order
  unfoldable pub starts : Pattern → List ℕ → Option Match → List Start
  starts p b l = keep (lies_in p b l) (starts_to (length (v.field p.context)))

  -- a negated pattern holds if its field is present and it lies nowhere in its window
  unfoldable pub unmatched_holds : Pattern → List ℕ → Option Match → Bool
  unmatched_holds p b l = v.present p.context && none? (starts p b l)

  -- q holds a start for each positive pattern, and each item holds; l is the last positive pattern before
  unfoldable pub Meets : List Constraint → Option Match → List Start → Type 0
  Meets [] l [] = Unit {0}
  Meets [] l (s ∷ q) = ⊥
  Meets (matched p b ∷ ws) l [] = ⊥
  Meets (matched p b ∷ ws) l (s ∷ q) = (lies_in p b l s ≡ true) × Meets ws (last_after l p s) q
  Meets (unmatched p b ∷ ws) l q = (v.present p.context ≡ true) × ((s : Start) → lies_in p b l s ≡ false) × Meets ws l q
  Meets (tested it al ∷ ws) l q = (test_holds v it al l ≡ true) × Meets ws l q

  -- the placements of the items
  unfoldable pub placements : List Constraint → Option Match → List (List Start)
  placements [] l = [] ∷ []
  placements (matched p b ∷ ws) l = spread (λ (s : Start). placements ws (last_after l p s)) (starts p b l)
  placements (unmatched p b ∷ ws) l = only_if (unmatched_holds p b l) (placements ws l)
  placements (tested it al ∷ ws) l = only_if (test_holds v it al l) (placements ws l)

-- ---- over a table

-- the protocol is equal, and flow if given
abbrev pub head_holds : Table → View → Direction → Bool
head_holds t v dir = eqb v.header.protocol t.protocol && flow_holds t.flow dir

-- A PLACEMENT MEETS THE TABLE
unfoldable pub MeetsTable : Table → View → Direction → List Start → Type 0
MeetsTable t v dir q = (head_holds t v dir ≡ true) × Meets v (items_of t) None q

-- THE LIST OF PLACEMENTS
unfoldable pub listed : Table → View → Direction → List (List Start)
listed t v dir = only_if (head_holds t v dir) (placements v (items_of t) None)
